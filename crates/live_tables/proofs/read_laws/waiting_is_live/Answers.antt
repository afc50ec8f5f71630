use Rattle.live_tables.specs.WaitLemmas.{waiting_is_live}
use Rattle.live_tables.proofs.read_laws.waiting_is_live.Goals as goal

pub returns : goal.returns
returns c = waiting_is_live
