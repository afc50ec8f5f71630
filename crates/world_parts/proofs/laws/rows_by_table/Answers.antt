use Rattle.world_parts.specs.ByTableLemmas.{all_tables}
use Rattle.world_parts.proofs.laws.rows_by_table.Goals as goal

pub returns : goal.returns
returns c = all_tables
