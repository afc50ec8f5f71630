use Rattle.std.proofs.Common.{◌≡◌, ◌+◌, ◌++◌, drop}
use Rattle.model.specs.Rows.{keys_at}
use Rattle.model.specs.Footprint.{moved_cells}
use Rattle.change.specs.Reading.{read_row}
use Rattle.change.proofs.footprint.add_moved.Given as goal

-- the cells so far, and those of the unique keys that are left
abbrev pub invariant-loop-index : goal.invariant-loop-index
invariant-loop-index l =
    l.cells.items ++ moved_cells l.table (read_row l.old) (read_row l.new) (l.index + 1) (drop l.index (keys_at l.t.schema l.table).uniques)
    ≡ l.fn.cells.items ++ moved_cells l.table (read_row l.old) (read_row l.new) 1 (keys_at l.t.schema l.table).uniques
