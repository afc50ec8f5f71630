use Rattle.live_tables.specs.WaitLemmas.{shared_is_held}
use Rattle.live_tables.proofs.read_laws.shared_is_held.Goals as goal

pub returns : goal.returns
returns c = shared_is_held
