use Rattle.world.specs.CallLemmas.{committed_is_serial}
use Rattle.world.proofs.laws.committed_is_serial.Goals as goal

pub returns : goal.returns
returns c = committed_is_serial
