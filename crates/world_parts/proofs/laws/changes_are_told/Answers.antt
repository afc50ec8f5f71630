use Rattle.world_parts.specs.MarkLemmas.{told_with, told_beside, told_touch}
use Rattle.world_parts.proofs.laws.changes_are_told.Goals as goal

pub returns : goal.returns
returns c = λ table top sub items mine told. (
  told_with table top sub items mine told,
  told_beside table top sub items mine told,
  told_touch table top sub items mine told,
)
