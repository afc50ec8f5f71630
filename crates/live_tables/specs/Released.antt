-- What is released of the tables when a transaction lets cells go.
--     IsLetGo      a cell is among those past a mark, and none that was held before it overlaps it
--     HasReleased      such cells go from the room where no row fills them, and no other cell goes
--     IsAlone      it is this one cell, if none of these overlaps it
--     AreReleased      of those past a mark, only cells that a row fills are in the room
use Rattle.std.specs.Prelude.{◌≡◌, ℕ, ◌≤◌, ◌⊎◌, false, List, Some, take, slice_get}
use Rattle.std.specs.List.{Contains, list_any}
use Rattle.model.specs.declared.cell.Cell.{Cell}
use Rattle.model.specs.Cells.{overlaps}
use Rattle.indexes.specs.Content.{Content, KeepsCells, IsEmptyCell}
use Rattle.undo.specs.Others.{StaysInRoom}

-- the cell is among those past a mark, and none that was held before it overlaps it
pub record IsLetGo (mark : ℕ) (cells : List Cell) (cell : Cell) : Type 0 where
  pub index : ℕ
  pub past : mark ≤ index
  pub at : slice_get cells index ≡ Some cell
  pub alone : list_any (overlaps cell) (take index cells) ≡ false

-- it is this one cell, and none of these overlaps it
abbrev pub IsAlone : List Cell → Cell → Cell → Type 0
IsAlone cells one cell = (cell ≡ one) × (list_any (overlaps cell) cells ≡ false)

-- Cells of a kind go from the room, where no row fills them. No other cell goes, none comes, and no row changes.
pub record HasReleased (Goes : Cell → Type 0) (old new : Content) : Type 0 where
  pub schema : new.schema ≡ old.schema
  pub rows : new.rows ≡ old.rows
  pub gone : (cell : Cell) → Goes cell → IsEmptyCell old.schema old.rows cell → ¬ Contains new.room cell
  pub fewer : KeepsCells new.room old.room
  pub others : (cell : Cell) → StaysInRoom old new cell ⊎ Goes cell

-- Of the cells past a mark that none held before overlaps, only those that a row fills are in the room.
abbrev pub AreReleased : ℕ → List Cell → Content → Type 0
AreReleased mark cells t = (cell : Cell) → IsLetGo mark cells cell → IsEmptyCell t.schema t.rows cell → ¬ Contains t.room cell
