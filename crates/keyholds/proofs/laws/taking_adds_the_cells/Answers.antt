use Rattle.keyholds.proofs.HoldsLemmas.{taking_adds}
use Rattle.keyholds.proofs.laws.taking_adds_the_cells.Goals as goal

pub returns : goal.returns
returns g c = taking_adds
