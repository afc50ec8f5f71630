use Rattle.live_tables.specs.CallLemmas.{undo_is_ready}
use Rattle.live_tables.proofs.laws.undo_is_ready.Goals as goal

pub returns : goal.returns
returns c = undo_is_ready
