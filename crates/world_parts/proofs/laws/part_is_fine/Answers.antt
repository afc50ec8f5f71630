use Rattle.world_parts.specs.FineLemmas.{fine_here}
use Rattle.world_parts.proofs.laws.part_is_fine.Goals as goal

pub returns : goal.returns
returns c = fine_here
