use Rattle.undo.specs.LogLemmas.{settled_filled}
use Rattle.undo.proofs.laws.needed_is_filled.Goals as goal

pub returns : goal.returns
returns c = settled_filled
