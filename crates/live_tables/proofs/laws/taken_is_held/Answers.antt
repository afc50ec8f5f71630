use Rattle.live_tables.specs.HoldsLemmas.{taken_is_held}
use Rattle.live_tables.proofs.laws.taken_is_held.Goals as goal

pub returns : goal.returns
returns c = taken_is_held
