use Rattle.std.proofs.Common.{◌≡◌, ◌+◌, drop}
use Rattle.std.specs.List.{list_any}
use Rattle.model.specs.Rows.{keys_at}
use Rattle.model.specs.Cells.{unique_cells}
use Rattle.change.specs.Reading.{read_row}
use Rattle.change.proofs.search.any_unique.Given as goal

-- none so far passes, so the unique keys that are left decide
abbrev pub invariant-loop-index : goal.invariant-loop-index
invariant-loop-index g l =
    list_any (g.T.CellTest.passes l.test) (unique_cells l.table (read_row l.row) (l.index + 1) (drop l.index (keys_at l.t.schema l.table).uniques))
    ≡ list_any (g.T.CellTest.passes l.test) (unique_cells l.table (read_row l.row) 1 (keys_at l.t.schema l.table).uniques)
