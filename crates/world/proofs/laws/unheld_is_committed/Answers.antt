use Rattle.world.specs.CallLemmas.{unheld_is_committed}
use Rattle.world.proofs.laws.unheld_is_committed.Goals as goal

pub returns : goal.returns
returns c = unheld_is_committed
