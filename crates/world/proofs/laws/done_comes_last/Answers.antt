use Rattle.world.specs.CallLemmas.{done_comes_last}
use Rattle.world.proofs.laws.done_comes_last.Goals as goal

pub returns : goal.returns
returns c = done_comes_last
