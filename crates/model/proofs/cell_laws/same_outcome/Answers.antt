use Rattle.model.specs.AlikeLemmas.{same_outcome}
use Rattle.model.proofs.cell_laws.same_outcome.Goals as goal

pub returns : goal.returns
returns c = same_outcome
