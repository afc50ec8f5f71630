use Rattle.keyholds.proofs.HoldsLemmas.{taking_adds_each}
use Rattle.keyholds.proofs.laws.taking_adds_each.Goals as goal

pub returns : goal.returns
returns g c = taking_adds_each
