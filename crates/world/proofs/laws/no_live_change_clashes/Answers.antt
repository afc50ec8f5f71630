use Rattle.world.specs.CallLemmas.{no_live_change_clashes}
use Rattle.world.proofs.laws.no_live_change_clashes.Goals as goal

pub returns : goal.returns
returns c = no_live_change_clashes
