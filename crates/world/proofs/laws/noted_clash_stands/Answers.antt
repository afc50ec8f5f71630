use Rattle.world.specs.CallLemmas.{noted_clash_stands}
use Rattle.world.proofs.laws.noted_clash_stands.Goals as goal

pub returns : goal.returns
returns c = noted_clash_stands
