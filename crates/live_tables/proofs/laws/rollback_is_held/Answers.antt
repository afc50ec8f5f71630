use Rattle.live_tables.specs.MarkedHoldsLemmas.{rollback_is_held}
use Rattle.live_tables.proofs.laws.rollback_is_held.Goals as goal

pub returns : goal.returns
returns c = rollback_is_held
