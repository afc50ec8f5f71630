use Rattle.live_tables.specs.CallLemmas.{start_is_kept}
use Rattle.live_tables.proofs.laws.start_is_kept.Goals as goal

pub returns : goal.returns
returns c = start_is_kept
