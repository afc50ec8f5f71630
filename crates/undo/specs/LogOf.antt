-- The inverses of a transaction's changes, and the cells that they need.
--     IsLogOf      these inverses take back these changes
--     IsFilledBy      a row fills the cell, and the transaction holds the row's place
--     IsSecured      the transaction holds the cell, or it is filled so
--     StandsLive      rows whose places are held stand on the live rows
use Rattle.std.specs.Prelude.{◌≡◌, ℕ, ◌⊎◌, true, List, [], ◌∷◌, Some}
use Rattle.std.specs.List.{Contains, list_any}
use Rattle.std.specs.FinMap.{get}
use Rattle.model.specs.declared.key.Key.{Key}
use Rattle.model.specs.declared.row.Row.{Row as Record}
use Rattle.model.specs.declared.change.Change.{Change}
use Rattle.model.specs.declared.cell.Cell.{Cell}
use Rattle.model.specs.declared.cell.Cell.TheVariants.{Row}
use Rattle.model.specs.Rows.{Rows, Schema}
use Rattle.model.specs.Effect.{Skip, outcome, effect, inverse}
use Rattle.model.specs.Cells.{table_of, overlaps, cells_of}
use Rattle.model.specs.Footprint.{footprint}
use Rattle.indexes.specs.Content.{KeepsCells}
use Rattle.change.specs.declared.inverse.Inverse.{Inverse}
use Rattle.change.specs.Inverse.{edits_of}
use Rattle.change.specs.Altered.{cells_altered}
use Rattle.change.specs.Applied.{IsDone}

-- The inverses take back the changes, each made on the rows that those before it leave. One that was skipped has none.
pub data IsLogOf (schema : Schema) : Rows → List Change → List Inverse → Type 0 where
  no_change : (rows : Rows) → IsLogOf schema rows [] []
  with_done : (rows : Rows) (c : Change) (cs : List Change) (i : Inverse) (is : List Inverse)
      → IsDone (outcome schema rows c) → edits_of i ≡ inverse schema rows c → KeepsCells (cells_altered i) (footprint schema rows c)
      → IsLogOf schema (effect schema rows c) cs is → IsLogOf schema rows (c ∷ cs) (i ∷ is)
  with_skipped : (rows : Rows) (c : Change) (cs : List Change) (is : List Inverse)
      → outcome schema rows c ≡ Skip → IsLogOf schema (effect schema rows c) cs is → IsLogOf schema rows (c ∷ cs) is

-- a row fills the cell, and the row's place is among what is held
pub record IsFilledBy (schema : Schema) (rows : Rows) (held : List Cell) (cell : Cell) : Type 0 where
  pub key : Key
  pub row : Record
  pub at : get rows (table_of cell, key) ≡ Some row
  pub fills : Contains (cells_of schema (table_of cell) row) cell
  pub its : list_any (overlaps (Row (table_of cell) key)) held ≡ true

-- the cell is among what is held, or filled by a row whose place is
abbrev pub IsSecured : Schema → Rows → List Cell → Cell → Type 0
IsSecured schema rows held cell = (list_any (overlaps cell) held ≡ true) ⊎ IsFilledBy schema rows held cell

-- rows whose places are held stand on the live rows too
abbrev pub StandsLive : Rows → Rows → List Cell → Type 0
StandsLive live own held = (table : ℕ) (key : Key) → list_any (overlaps (Row table key)) held ≡ true → get live (table, key) ≡ get own (table, key)
