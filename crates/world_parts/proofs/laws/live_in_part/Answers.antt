use Rattle.world_parts.specs.LiveLemmas.{live_here}
use Rattle.world_parts.proofs.laws.live_in_part.Goals as goal

pub returns : goal.returns
returns c = live_here
