-- What others may do while a log can still be undone.
--     all_altered      the cells that a list of inverses alters
--     all_needed      the cells that a list of inverses fills again, for which there has to be room
--     AreValidBack      the rows are valid at each step of the way back
--     StaysInRoom      a cell that was in the room is in it still
--     IsFilled, HasRoomForAll      a row of the tables fills the cell; there is room for each row
use Rattle.std.specs.Prelude.{◌≡◌, ℕ, List, [], ◌∷◌, ◌++◌, Some}
use Rattle.std.specs.List.{Contains}
use Rattle.std.specs.FinMap.{get}
use Rattle.model.specs.declared.key.Key.{Key}
use Rattle.model.specs.declared.row.Row.{Row as Record}
use Rattle.model.specs.declared.cell.Cell.{Cell}
use Rattle.model.specs.Rows.{Rows, Schema, IsValid}
use Rattle.model.specs.Cells.{cells_of, table_of}
use Rattle.indexes.specs.Content.{Content, HasRoom}
use Rattle.change.specs.declared.inverse.Inverse.{Inverse}
use Rattle.change.specs.Altered.{cells_altered}
use Rattle.undo.specs.Undo.{content_undone, cells_needed}

-- the cells that a list of inverses alters
abbrev pub all_altered : List Inverse → List Cell
all_altered [] = []
all_altered (inverse ∷ inverses) = cells_altered inverse ++ all_altered inverses

-- the cells that a list of inverses fills again
abbrev pub all_needed : Schema → List Inverse → List Cell
all_needed schema [] = []
all_needed schema (inverse ∷ inverses) = cells_needed schema inverse ++ all_needed schema inverses

-- the rows are valid at each step of the way back, the last of the inverses first
abbrev pub AreValidBack : Content → List Inverse → Type 0
AreValidBack t [] = Unit {0}
AreValidBack t (inverse ∷ inverses) = AreValidBack t inverses × IsValid t.schema (content_undone t (inverse ∷ inverses)).rows

-- a cell that was in the room is in it still
abbrev pub StaysInRoom : Content → Content → Cell → Type 0
StaysInRoom old new cell = Contains old.room cell → Contains new.room cell

-- a row of the tables fills the cell
pub record IsFilled (schema : Schema) (rows : Rows) (cell : Cell) : Type 0 where
  pub key : Key
  pub row : Record
  pub at : get rows (table_of cell, key) ≡ Some row
  pub fills : Contains (cells_of schema (table_of cell) row) cell

-- there is room for each row of the tables
abbrev pub HasRoomForAll : Content → Type 0
HasRoomForAll t =
    (table : ℕ) (key : Key) (row : Record) → get t.rows (table, key) ≡ Some row → HasRoom t.room t.schema table row
