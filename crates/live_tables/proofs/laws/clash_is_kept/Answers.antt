use Rattle.live_tables.specs.CallLemmas.{clash_is_kept}
use Rattle.live_tables.proofs.laws.clash_is_kept.Goals as goal

pub returns : goal.returns
returns c = clash_is_kept
