use Rattle.std.proofs.Common.{◌≡◌, ◌+◌, drop}
use Rattle.std.specs.List.{list_any}
use Rattle.model.specs.Rows.{keys_at}
use Rattle.model.specs.Footprint.{moved_cells}
use Rattle.change.specs.Reading.{read_row}
use Rattle.change.proofs.search.any_moved.Given as goal

-- none so far passes, so the unique keys that are left decide
abbrev pub invariant-loop-index : goal.invariant-loop-index
invariant-loop-index g l =
    list_any (g.T.CellTest.passes l.test) (moved_cells l.table (read_row l.old) (read_row l.new) (l.index + 1) (drop l.index (keys_at l.t.schema l.table).uniques))
    ≡ list_any (g.T.CellTest.passes l.test) (moved_cells l.table (read_row l.old) (read_row l.new) 1 (keys_at l.t.schema l.table).uniques)
