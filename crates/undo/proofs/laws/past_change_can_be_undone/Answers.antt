use Rattle.undo.specs.OthersLemmas.{CanUndo_past_change}
use Rattle.undo.proofs.laws.past_change_can_be_undone.Goals as goal

pub returns : goal.returns
returns c = CanUndo_past_change
