use Rattle.std.proofs.Common.{◌≡◌, drop, is_some}
use Rattle.model.specs.Rows.{values_in}
use Rattle.indexes.proofs.columns.has_values.Given as goal

abbrev pub invariant-loop-column : goal.invariant-loop-column
invariant-loop-column g l = is_some (values_in (drop l.column-index l.columns) (g.R.ReadRow.read l.row)) ≡ is_some (values_in l.columns (g.R.ReadRow.read l.row))
