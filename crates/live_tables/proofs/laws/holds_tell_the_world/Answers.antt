use Rattle.live_tables.specs.HoldsLemmas.{holds_tell_the_world}
use Rattle.live_tables.proofs.laws.holds_tell_the_world.Goals as goal

pub returns : goal.returns
returns c = holds_tell_the_world
