use Rattle.model.specs.SerialLemmas.{either_first}
use Rattle.model.proofs.cell_laws.lists_commute.Goals as goal

pub returns : goal.returns
returns c = either_first
