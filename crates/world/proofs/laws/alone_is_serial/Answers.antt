use Rattle.world.specs.CallLemmas.{alone_is_serial}
use Rattle.world.proofs.laws.alone_is_serial.Goals as goal

pub returns : goal.returns
returns c = alone_is_serial
