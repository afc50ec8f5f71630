use Rattle.live_tables.specs.HoldsLemmas.{open_is_held}
use Rattle.live_tables.proofs.laws.open_is_held.Goals as goal

pub returns : goal.returns
returns c = open_is_held
