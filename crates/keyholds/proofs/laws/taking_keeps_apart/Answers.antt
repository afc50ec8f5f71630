use Rattle.keyholds.proofs.HoldsLemmas.{taking_keeps_apart as kept_apart}
use Rattle.keyholds.proofs.laws.taking_keeps_apart.Goals as goal

pub returns : goal.returns
returns c = kept_apart
