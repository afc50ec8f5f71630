use Rattle.world.specs.CallLemmas.{outcome_on_live}
use Rattle.world.proofs.laws.outcome_on_live.Goals as goal

pub returns : goal.returns
returns c = outcome_on_live
