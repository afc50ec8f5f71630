use Rattle.live_tables.specs.CallLemmas.{open_is_kept}
use Rattle.live_tables.proofs.laws.open_is_kept.Goals as goal

pub returns : goal.returns
returns c = open_is_kept
