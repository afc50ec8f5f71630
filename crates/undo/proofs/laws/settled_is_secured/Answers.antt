use Rattle.undo.specs.LogLemmas.{secured}
use Rattle.undo.proofs.laws.settled_is_secured.Goals as goal

pub returns : goal.returns
returns c = secured
