use Rattle.world_parts.specs.ByTableLemmas.{walked_at}
use Rattle.world_parts.proofs.laws.walked_by_table.Goals as goal

pub returns : goal.returns
returns c = walked_at
