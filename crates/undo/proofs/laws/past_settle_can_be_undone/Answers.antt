use Rattle.undo.specs.OthersLemmas.{CanUndo_past_settle}
use Rattle.undo.proofs.laws.past_settle_can_be_undone.Goals as goal

pub returns : goal.returns
returns c = CanUndo_past_settle
