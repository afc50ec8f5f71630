-- A log of inverses, and when it can be undone.
--     Log      the inverses, oldest first, and how many more it has room for
--     content_back, content_undone      the tables with an inverse put back; with all of a list, the last of them first
--     CanUndo      each inverse can be put back once those after it are
--     cells_settled      the cells whose empty slots a log gives up
--     IsReleased, IsSettled, AreSettled      a row's are given up; those of an inverse; those of all
use Rattle.std.specs.Prelude.{◌≡◌, ℕ, ◌+◌, false, List, [], ◌∷◌, ◌++◌, Some, slice_get}
use Rattle.std.specs.List.{Contains}
use Rattle.model.specs.declared.key.Key.{Key}
use Rattle.model.specs.declared.row.Row.{Row as Record}
use Rattle.model.specs.declared.cell.Cell.{Cell}
use Rattle.model.specs.declared.cell.Cell.TheVariants.{Row, Uniq}
use Rattle.model.specs.Rows.{Rows, Schema, keys_at, values_in, are_taken}
use Rattle.model.specs.Cells.{cells_of}
use Rattle.model.specs.Effect.{back}
use Rattle.indexes.specs.Content.{Content}
use Rattle.change.specs.declared.inverse.Inverse.{Inverse}
use Rattle.change.specs.declared.inverse.Inverse.TheVariants.{Take, Put, Replace, Move, Unwipe}
use Rattle.change.specs.Inverse.{edits_of, room_back, HasNoRow, IsKnown, CanPutBack}

-- a log as its callers see it
pub record Log : Type 0 where
  pub inverses : List Inverse  -- oldest first
  pub room : ℕ  -- how many more can be added without memory

-- the tables with an inverse put back
abbrev pub content_back : Content → Inverse → Content
content_back t inverse = record { schema = t.schema; rows = back t.rows (edits_of inverse); room = room_back t.room inverse }

-- the last of them first
abbrev pub content_undone : Content → List Inverse → Content
content_undone t [] = t
content_undone t (inverse ∷ inverses) = content_back (content_undone t inverses) inverse

-- each can be put back once those after it are
abbrev pub CanUndo : Content → List Inverse → Type 0
CanUndo t [] = Unit {0}
CanUndo t (inverse ∷ inverses) = CanUndo t inverses × CanPutBack (content_undone t inverses) inverse

-- the tables of the inverses are there
abbrev pub AreKnownAll : Schema → List Inverse → Type 0
AreKnownAll schema [] = Unit {0}
AreKnownAll schema (inverse ∷ inverses) = IsKnown schema inverse × AreKnownAll schema inverses

-- the cells that an inverse fills again, for which there has to be room; an emptied table brings its own
abbrev pub cells_needed : Schema → Inverse → List Cell
cells_needed schema (Take table key) = []
cells_needed schema (Put table key row) = cells_of schema table row
cells_needed schema (Replace table key row) = cells_of schema table row
cells_needed schema (Move table keys row) = cells_of schema table row
cells_needed schema (Unwipe wiped) = []

-- of an inverse that puts a row back: its key's, and those that it fills again
abbrev pub cells_settled : Schema → Inverse → List Cell
cells_settled schema (Take table key) = []
cells_settled schema (Put table key row) = Row table key ∷ cells_needed schema (Put table key row)
cells_settled schema (Replace table key row) = Row table key ∷ cells_needed schema (Replace table key row)
cells_settled schema (Move table keys row) = Row table keys.value.key ∷ cells_needed schema (Move table keys row)
cells_settled schema (Unwipe wiped) = []

-- the cells that settling a list of inverses may give up
abbrev pub all_settled : Schema → List Inverse → List Cell
all_settled schema [] = []
all_settled schema (inverse ∷ inverses) = cells_settled schema inverse ++ all_settled schema inverses

-- the key's cell is out of the room where no row stands, and a cell of the row's unique values where no row has them
pub record IsReleased (schema : Schema) (rows : Rows) (room : List Cell) (table : ℕ) (key : Key) (row : Record) : Type 0 where
  pub slot : HasNoRow rows table key → ¬ Contains room (Row table key)
  pub values : (i : ℕ) (columns : List ℕ) (values : Key) → slice_get (keys_at schema table).uniques i ≡ Some columns
      → values_in columns row ≡ Some values → are_taken rows table columns values ≡ false → ¬ Contains room (Uniq table (i + 1) values)

-- of an inverse that puts a row back: that row's
abbrev pub IsSettled : Schema → Rows → List Cell → Inverse → Type 0
IsSettled schema rows room (Take table key) = Unit {0}
IsSettled schema rows room (Put table key row) = IsReleased schema rows room table key row
IsSettled schema rows room (Replace table key row) = IsReleased schema rows room table key row
IsSettled schema rows room (Move table keys row) = IsReleased schema rows room table keys.value.key row
IsSettled schema rows room (Unwipe wiped) = Unit {0}

-- each row that one of the inverses puts back has its cells given up, where no row fills them
abbrev pub AreSettled : Schema → Rows → List Cell → List Inverse → Type 0
AreSettled schema rows room [] = Unit {0}
AreSettled schema rows room (inverse ∷ inverses) = IsSettled schema rows room inverse × AreSettled schema rows room inverses
