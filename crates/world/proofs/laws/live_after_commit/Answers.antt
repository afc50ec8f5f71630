use Rattle.world.specs.CallLemmas.{live_after_commit}
use Rattle.world.proofs.laws.live_after_commit.Goals as goal

pub returns : goal.returns
returns c = live_after_commit
