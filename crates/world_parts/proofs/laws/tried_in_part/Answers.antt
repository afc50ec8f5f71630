use Rattle.world_parts.specs.PartLemmas.{acts_lifts}
use Rattle.world_parts.proofs.laws.tried_in_part.Goals as goal

pub returns : goal.returns
returns c = acts_lifts
