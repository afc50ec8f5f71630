use Rattle.std.proofs.Common.{◌≡◌, drop}
use Rattle.model.specs.Rows.{values_in}
use Rattle.indexes.specs.Columns.{behind}
use Rattle.indexes.proofs.columns.key_of.Given as goal

abbrev pub invariant-loop-column : goal.invariant-loop-column
invariant-loop-column g l = behind l.values.items (values_in (drop l.column-index l.columns) (g.R.ReadRow.read l.row)) ≡ values_in l.columns (g.R.ReadRow.read l.row)
