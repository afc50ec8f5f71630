use Rattle.world.specs.BackLemmas.{back_is_valid}
use Rattle.world.proofs.laws.back_is_valid.Goals as goal

pub returns : goal.returns
returns c = back_is_valid
