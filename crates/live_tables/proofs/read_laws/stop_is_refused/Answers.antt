use Rattle.live_tables.specs.WaitLemmas.{stop_is_refused}
use Rattle.live_tables.proofs.read_laws.stop_is_refused.Goals as goal

pub returns : goal.returns
returns c = stop_is_refused
