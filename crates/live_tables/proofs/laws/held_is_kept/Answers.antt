use Rattle.live_tables.specs.CallLemmas.{held_is_kept}
use Rattle.live_tables.proofs.laws.held_is_kept.Goals as goal

pub returns : goal.returns
returns c = held_is_kept
