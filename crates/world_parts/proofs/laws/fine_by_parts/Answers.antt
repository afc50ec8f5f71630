use Rattle.world_parts.specs.FineLemmas.{fine_by_parts}
use Rattle.world_parts.proofs.laws.fine_by_parts.Goals as goal

pub returns : goal.returns
returns c = fine_by_parts
