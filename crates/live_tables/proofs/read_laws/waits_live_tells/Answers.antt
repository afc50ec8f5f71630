use Rattle.live_tables.specs.WaitLemmas.{waits_live_tells}
use Rattle.live_tables.proofs.read_laws.waits_live_tells.Goals as goal

pub returns : goal.returns
returns c = waits_live_tells
