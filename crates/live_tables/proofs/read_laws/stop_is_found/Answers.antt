use Rattle.live_tables.specs.WaitLemmas.{stop_is_found}
use Rattle.live_tables.proofs.read_laws.stop_is_found.Goals as goal

pub returns : goal.returns
returns c = stop_is_found
