use Rattle.world.specs.CallLemmas.{line_grows}
use Rattle.world.proofs.laws.line_grows.Goals as goal

pub returns : goal.returns
returns c = line_grows
