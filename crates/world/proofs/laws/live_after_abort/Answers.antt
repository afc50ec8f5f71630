use Rattle.world.specs.CallLemmas.{live_after_abort}
use Rattle.world.proofs.laws.live_after_abort.Goals as goal

pub returns : goal.returns
returns c = live_after_abort
