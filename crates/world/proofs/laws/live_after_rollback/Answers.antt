use Rattle.world.specs.CallLemmas.{live_after_rollback}
use Rattle.world.proofs.laws.live_after_rollback.Goals as goal

pub returns : goal.returns
returns c = live_after_rollback
