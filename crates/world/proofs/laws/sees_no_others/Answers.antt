use Rattle.world.specs.CallLemmas.{sees_no_others}
use Rattle.world.proofs.laws.sees_no_others.Goals as goal

pub returns : goal.returns
returns c = sees_no_others
