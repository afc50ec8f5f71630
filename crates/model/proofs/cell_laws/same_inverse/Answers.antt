use Rattle.model.specs.AlikeLemmas.{same_inverse}
use Rattle.model.proofs.cell_laws.same_inverse.Goals as goal

pub returns : goal.returns
returns c = same_inverse
