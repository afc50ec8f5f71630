use Rattle.live_tables.specs.CallLemmas.{stop_is_kept}
use Rattle.live_tables.proofs.laws.stop_is_kept.Goals as goal

pub returns : goal.returns
returns c = stop_is_kept
