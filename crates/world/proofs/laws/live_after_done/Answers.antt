use Rattle.world.specs.CallLemmas.{live_after_done}
use Rattle.world.proofs.laws.live_after_done.Goals as goal

pub returns : goal.returns
returns c = live_after_done
