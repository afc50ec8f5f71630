use Rattle.std.proofs.Common.{◌≡◌, ◌+◌, ◌++◌, drop}
use Rattle.model.specs.Rows.{keys_at}
use Rattle.model.specs.Cells.{unique_cells}
use Rattle.change.proofs.footprint.add_unique.Given as goal

-- the cells so far, and those of the unique keys that are left
abbrev pub invariant-loop-index : goal.invariant-loop-index
invariant-loop-index g l =
    l.cells.items ++ unique_cells l.table (g.R.ReadRow.read l.row) (l.index + 1) (drop l.index (keys_at l.t.schema l.table).uniques)
    ≡ l.fn.cells.items ++ unique_cells l.table (g.R.ReadRow.read l.row) 1 (keys_at l.t.schema l.table).uniques
