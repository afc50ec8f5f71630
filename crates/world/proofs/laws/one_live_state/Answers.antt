use Rattle.world.specs.CallLemmas.{one_live_state}
use Rattle.world.proofs.laws.one_live_state.Goals as goal

pub returns : goal.returns
returns c = one_live_state
