use Rattle.world_parts.specs.MarkLemmas.{back_here, back_nowhere}
use Rattle.world_parts.proofs.laws.rollback_by_table.Goals as goal

pub returns : goal.returns
returns c = λ table top sub items mine not_top told. (
  back_here table top sub items mine not_top told,
  back_nowhere table top sub items mine not_top told,
)
