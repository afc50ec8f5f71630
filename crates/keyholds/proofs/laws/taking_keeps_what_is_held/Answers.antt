use Rattle.keyholds.proofs.HoldsLemmas.{taking_keeps_held}
use Rattle.keyholds.proofs.laws.taking_keeps_what_is_held.Goals as goal

pub returns : goal.returns
returns g c = taking_keeps_held
