-- The tables, one by one, gathered into what callers see.
use Rattle.std.specs.Prelude.{◌≡◌, ℕ, suc, List, [], ◌∷◌, ◌++◌, Some, map, slice_get}
use Rattle.std.specs.FinMap.{entries, from_entries, empty}
use Rattle.model.specs.declared.row.Row.{Row}
use Rattle.model.specs.declared.cell.Cell.{Cell}
use Rattle.model.specs.Rows.{Place, Rows, Schema}
use Rattle.indexes.specs.Table.{TableContent, cells_in, IsSound}
use Rattle.indexes.specs.Content.{Content}

-- the rows of tables numbered from `number`, each at its place
abbrev pub placed : ℕ → List TableContent → List (Place × Row)
placed number [] = []
placed number (t ∷ ts) = map (λ e. ((number, e.0), e.1)) (entries t.rows) ++ placed (suc number) ts

-- the rows of all tables, each at its place
abbrev pub rows_of : List TableContent → Rows
rows_of ts = from_entries (placed 0 ts)

-- the rooms of tables numbered from `number`
abbrev pub cells_from : ℕ → List TableContent → List Cell
cells_from number [] = []
cells_from number (t ∷ ts) = cells_in number t ++ cells_from (suc number) ts

-- the keys' columns of each table
abbrev pub schema_of : List TableContent → Schema
schema_of ts = map (λ t. t.keys) ts

-- the tables as one content: their keys, all rows, and all rooms
abbrev pub gathered : List TableContent → Content
gathered ts = record { schema = schema_of ts; rows = rows_of ts; room = cells_from 0 ts }

-- each of the tables is sound
abbrev pub AllSound : List TableContent → Type 0
AllSound ts = (i : ℕ) (t : TableContent) → slice_get ts i ≡ Some t → IsSound t

-- with no rows
pub record IsNew (t : TableContent) : Type 0 where
  pub sound : IsSound t
  pub no_rows : t.rows ≡ empty
