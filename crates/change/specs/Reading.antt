-- What is read in place, without a copy, as what it is.
--     read_row      a row as a patch leaves it
--     values_read      the values of a key
--     cell_read      a cell
use Rattle.std.specs.Prelude.{List, [], Option, Some, None}
use Rattle.std.specs.Borrow.{Bor}
use Rattle.model.specs.declared.key.Key.{Key}
use Rattle.model.specs.declared.patch.ColumnPatch.{ColumnPatch}
use Rattle.model.specs.declared.row.Row.{Row as Record}
use Rattle.model.specs.declared.cell.Cell.{Cell}
use Rattle.model.specs.declared.cell.Cell.TheVariants.{Row, Uniq, Whole}
use Rattle.model.specs.Effect.{patch_row}
use Rattle.indexes.specs.Columns.{present}
use Rattle.change.specs.declared.reading.PatchedRow.{PatchedRow}
use Rattle.change.specs.declared.cell_ref.KeyRef.{KeyRef}
use Rattle.change.specs.declared.cell_ref.KeyRef.TheVariants.{Key as KeyItself, Columns}
use Rattle.change.specs.declared.cell_ref.CellRef.{CellRef}
use Rattle.change.specs.declared.cell_ref.CellRef.TheVariants.{Row as RowRef, Uniq as UniqRef, Whole as WholeRef}

-- what is done to each column; nothing where there is no patch
abbrev pub patch_read : Option (Bor (List ColumnPatch)) → List ColumnPatch
patch_read None = []
patch_read (Some patch) = patch.now

-- a row as the patch leaves it
abbrev pub read_row : PatchedRow → Record
read_row r = patch_row (patch_read r.patch) r.row.now

-- the values of a key: its own, or those that the row has in some columns, nulls left out
abbrev pub values_read : KeyRef → Key
values_read (KeyItself key) = key.now
values_read (Columns columns row) = present columns.now (read_row row)

-- the cell that is read
abbrev pub cell_read : CellRef → Cell
cell_read (RowRef table key) = Row table (values_read key)
cell_read (UniqRef table number values) = Uniq table number (values_read values)
cell_read (WholeRef table) = Whole table
