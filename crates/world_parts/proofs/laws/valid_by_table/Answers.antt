use Rattle.world_parts.specs.ByTableLemmas.{valid_at, valid_by_tables}
use Rattle.world_parts.proofs.laws.valid_by_table.Goals as goal

pub returns : goal.returns
returns c = λ schema rows. (λ valid table. valid_at schema table rows valid, valid_by_tables schema rows)
