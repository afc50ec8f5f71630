use Rattle.world.specs.CallLemmas.{live_after_touch}
use Rattle.world.proofs.laws.live_after_touch.Goals as goal

pub returns : goal.returns
returns c = live_after_touch
