use Rattle.std.proofs.Common.{◌≡◌}
use Rattle.std.specs.Map.{keys_of}
use Rattle.keyholds.specs.Holds.{cells_held}
use Rattle.live_tables.specs.RowSource.{row_read}
use Rattle.live_tables.proofs.Stands.{AreSoFar}
use Rattle.live_tables.proofs.before_image.with_before_images.Given as goal

-- the cells so far are there, each with what is to lie beside it
abbrev pub invariant-loop-cell : goal.invariant-loop-cell
invariant-loop-cell l = record {
  can_next : goal.iterator-loop-cell.can_next l.cell-iterator;
  is_finite : goal.iterator-loop-cell.is_finite l.cell-iterator;
  cells : keys_of l.more.items ≡ l.yielded;
  stand : AreSoFar (row_read l.source) l.count (cells_held l.holds) l.fn.cells.items l.more.items;
}
