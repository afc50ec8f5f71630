use Rattle.world_parts.specs.LineLemmas.{until_in_part}
use Rattle.world_parts.proofs.laws.rows_until_in_part.Goals as goal

pub returns : goal.returns
returns c = until_in_part
