-- All tables as their callers see them: the keys' columns, the rows, and the room.
--     KeepsCells, HasRoom      no cell goes; there is room for a row
--     unique_columns      the columns of a unique key, by its number from 1
--     least_taken      the least key in which a row that comes agrees with another
--     IsTable, SameElsewhere, SameRoomElsewhere      a table's rows by themselves; the other tables stay as they were
--     IsEmptyCell, ReleasesCell      no row fills a cell; such a cell goes from the room
use Rattle.std.specs.Prelude.{◌≡◌, ◌≢◌, ℕ, ◌-◌, List, [], Option, Some, if◌then◌else◌, unwrap_or, slice_get}
use Rattle.std.specs.List.{Contains}
use Rattle.std.specs.FinMap.{FinMap, get, contains_key}
use Rattle.model.specs.declared.key.Key.{Key}
use Rattle.model.specs.declared.row.Row.{Row as Record}
use Rattle.model.specs.declared.cell.Cell.{Cell}
use Rattle.model.specs.Key.{key_cmp}
use Rattle.model.specs.Rows.{Rows, Schema, keys_at}
use Rattle.model.specs.Cells.{cells_of, table_of}
use Rattle.model.specs.Effect.{first_taken}

-- all tables as their callers see them: the keys' columns, the rows, and the room
pub record Content : Type 0 where
  pub schema : Schema  -- the keys of each table, in the catalog's order
  pub rows : Rows  -- all rows of all tables
  pub room : List Cell  -- the cells that can be filled again without memory

-- each cell of the one is in the other
abbrev pub KeepsCells : List Cell → List Cell → Type 0
KeepsCells old new = (c : Cell) → Contains old c → Contains new c

-- each cell that the row fills is in the room
abbrev pub HasRoom : List Cell → Schema → ℕ → Record → Type 0
HasRoom room schema table row = KeepsCells (cells_of schema table row) room

-- the columns of a table's unique key, by its number from 1
abbrev pub unique_columns : Schema → ℕ → ℕ → List ℕ
unique_columns schema table number = unwrap_or (slice_get (keys_at schema table).uniques (number - 1)) []

-- the least key in which a row that comes to this key agrees with another of its table: 0 is the primary key
abbrev pub least_taken : Schema → Rows → ℕ → Key → Record → Option ℕ
least_taken schema rows table key row =
    if contains_key rows (table, key) then Some 0 else first_taken rows table row 1 (keys_at schema table).uniques

-- these are the table's rows, by their keys
abbrev pub IsTable : Rows → ℕ → FinMap key_cmp Record → Type 0
IsTable rows table own = (key : Key) → get rows (table, key) ≡ get own key

-- no row of another table changes
abbrev pub SameElsewhere : Rows → Rows → ℕ → Type 0
SameElsewhere old new table = (other : ℕ) (key : Key) → other ≢ table → get new (other, key) ≡ get old (other, key)

-- no cell of another table goes
abbrev pub SameRoomElsewhere : List Cell → List Cell → ℕ → Type 0
SameRoomElsewhere old new table = (c : Cell) → table_of c ≢ table → Contains old c → Contains new c

-- no row of its table fills the cell
abbrev pub IsEmptyCell : Schema → Rows → Cell → Type 0
IsEmptyCell schema rows cell = (key : Key) (row : Record) → get rows (table_of cell, key) ≡ Some row → ¬ Contains (cells_of schema (table_of cell) row) cell

-- A cell that no row fills goes from the room. No other cell goes, none comes, and no row changes.
pub record ReleasesCell (old new : Content) (cell : Cell) : Type 0 where
  pub schema : new.schema ≡ old.schema
  pub rows : new.rows ≡ old.rows
  pub gone : IsEmptyCell old.schema old.rows cell → ¬ Contains new.room cell
  pub fewer : KeepsCells new.room old.room
  pub others : (c : Cell) → c ≢ cell → Contains old.room c → Contains new.room c
