use Rattle.undo.specs.UndoLemmas.{CanUndo_keeps}
use Rattle.undo.proofs.laws.more_room_can_be_undone.Goals as goal

pub returns : goal.returns
returns c = CanUndo_keeps
