use Rattle.world.specs.CallLemmas.{rollback_keeps_the_rest}
use Rattle.world.proofs.laws.rollback_keeps_the_rest.Goals as goal

pub returns : goal.returns
returns c = rollback_keeps_the_rest
