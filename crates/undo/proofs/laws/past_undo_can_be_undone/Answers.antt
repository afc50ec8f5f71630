use Rattle.undo.specs.OthersLemmas.{CanUndo_past_undo}
use Rattle.undo.proofs.laws.past_undo_can_be_undone.Goals as goal

pub returns : goal.returns
returns c = CanUndo_past_undo
