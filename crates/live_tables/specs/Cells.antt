-- What the holds say of the cells of a change, asked on the live tables.
--     IsFreeOf      no other transaction holds a cell of the looked-up row, nor then any cell of the change
--     IsHeldIn      another one does, found in that order
--     IsFound      which of the two it is, with the change's cells
use Rattle.std.specs.Prelude.{◌≡◌, ℕ, ◌⊎◌, List, All}
use Rattle.model.specs.declared.cell.Cell.{Cell}
use Rattle.model.specs.declared.change.Change.{Change}
use Rattle.model.specs.Rows.{Rows, Schema}
use Rattle.model.specs.Footprint.{looked_up, footprint}
use Rattle.keyholds.specs.Holds.{IsFreeCell, IsFirstHeldBy}
use Rattle.live_tables.specs.declared.cells.Found as found_type
use Rattle.live_tables.specs.declared.cells.Found.TheVariants.{Free, Held}

-- no other transaction holds the cell of the row that the change looks up, nor any of its cells on these rows
pub record IsFreeOf (schema : Schema) (rows : Rows) (held : ℕ → List Cell) (xid : ℕ) (c : Change) : Type 0 where
  pub row : All (IsFreeCell held xid) (looked_up c)
  pub all : All (IsFreeCell held xid) (footprint schema rows c)

-- another one holds the first of them that another has: of the looked-up row, or where that is free, of all
abbrev pub IsHeldIn : Schema → Rows → (ℕ → List Cell) → ℕ → Change → ℕ → Type 0
IsHeldIn schema rows held xid c holder =
    IsFirstHeldBy held xid (looked_up c) holder
    ⊎ (All (IsFreeCell held xid) (looked_up c) × IsFirstHeldBy held xid (footprint schema rows c) holder)

-- which of the two it is, with the change's cells
abbrev pub IsFound : Schema → Rows → (ℕ → List Cell) → ℕ → Change → found_type.Found → Type 0
IsFound schema rows held xid c (Free cells) = IsFreeOf schema rows held xid c × (cells.items ≡ footprint schema rows c)
IsFound schema rows held xid c (Held holder) = IsHeldIn schema rows held xid c holder
