use Rattle.live_tables.specs.HoldsLemmas.{same_is_held}
use Rattle.live_tables.proofs.laws.same_is_held.Goals as goal

pub returns : goal.returns
returns c = same_is_held
