use Rattle.world.specs.CallLemmas.{rollback_leaves_beginning}
use Rattle.world.proofs.laws.rollback_leaves_beginning.Goals as goal

pub returns : goal.returns
returns c = rollback_leaves_beginning
