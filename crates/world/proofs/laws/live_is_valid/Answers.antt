use Rattle.world.specs.CallLemmas.{live_is_valid}
use Rattle.world.proofs.laws.live_is_valid.Goals as goal

pub returns : goal.returns
returns c = live_is_valid
