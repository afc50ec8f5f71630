use Rattle.world.specs.BackLemmas.{held_is_live}
use Rattle.world.proofs.laws.held_is_live.Goals as goal

pub returns : goal.returns
returns c = held_is_live
