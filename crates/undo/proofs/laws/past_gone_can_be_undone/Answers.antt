use Rattle.undo.specs.OthersLemmas.{CanUndo_past_gone}
use Rattle.undo.proofs.laws.past_gone_can_be_undone.Goals as goal

pub returns : goal.returns
returns c = CanUndo_past_gone
