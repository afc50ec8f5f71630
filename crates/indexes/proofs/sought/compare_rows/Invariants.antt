use Rattle.std.proofs.Common.{◌≡◌, drop}
use Rattle.model.specs.Key.{key_cmp}
use Rattle.indexes.specs.Columns.{present}
use Rattle.indexes.proofs.sought.compare_rows.Given as goal

abbrev pub invariant-loop-column : goal.invariant-loop-column
invariant-loop-column l =
    key_cmp (present (drop l.column-index l.columns) l.row) (present l.rest l.other) ≡ key_cmp (present l.columns l.row) (present l.others l.other)
