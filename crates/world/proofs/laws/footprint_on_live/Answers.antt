use Rattle.world.specs.CallLemmas.{footprint_on_live}
use Rattle.world.proofs.laws.footprint_on_live.Goals as goal

pub returns : goal.returns
returns c = footprint_on_live
