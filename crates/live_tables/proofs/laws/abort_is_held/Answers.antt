use Rattle.live_tables.specs.HoldsLemmas.{abort_is_held}
use Rattle.live_tables.proofs.laws.abort_is_held.Goals as goal

pub returns : goal.returns
returns c = abort_is_held
