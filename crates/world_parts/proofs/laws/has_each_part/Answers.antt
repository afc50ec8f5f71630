use Rattle.world_parts.specs.LineLemmas.{part_line}
use Rattle.world_parts.specs.PartOf.{part_of}
use Rattle.world_parts.specs.PartOfLemmas.{part_is, part_marked}
use Rattle.world_parts.proofs.laws.has_each_part.Goals as goal

pub returns : goal.returns
returns c = λ table w. (part_of table w, (part_is table w, part_marked table w), part_line table w)
