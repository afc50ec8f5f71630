use Rattle.undo.specs.UndoLemmas.{CanUndo_applied}
use Rattle.undo.proofs.laws.applied_can_be_undone.Goals as goal

pub returns : goal.returns
returns c = CanUndo_applied
