use Rattle.std.proofs.Common.{◌≡◌, drop}
use Rattle.model.specs.Key.{key_cmp}
use Rattle.indexes.specs.Columns.{present}
use Rattle.indexes.proofs.columns.compare_values.Given as goal

abbrev pub invariant-loop-column : goal.invariant-loop-column
invariant-loop-column g l = key_cmp (present (drop l.column-index l.columns) (g.R.ReadRow.read l.row)) l.rest ≡ key_cmp (present l.columns (g.R.ReadRow.read l.row)) l.key
