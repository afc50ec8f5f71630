use Rattle.world_parts.specs.MarkLemmas.{back_by_each}
use Rattle.world_parts.proofs.laws.rollback_by_marks.Goals as goal

pub returns : goal.returns
returns c = back_by_each
