-- The laws of cells and changes, each as one statement. `src/cell_laws.rt` names them, and the check proves them.
use Rattle.std.specs.Prelude.{◌≡◌, ◌≢◌, ℕ, true, false, List, [], ◌∷◌, ◌++◌, Some}
use Rattle.std.specs.List.{list_any}
use Rattle.std.specs.FinMap.{get}
use Rattle.model.specs.declared.key.Key.{Key}
use Rattle.model.specs.declared.row.Row.{Row as Record}
use Rattle.model.specs.declared.change.Change.{Change}
use Rattle.model.specs.declared.change.Change.TheVariants.{Set}
use Rattle.model.specs.declared.patch.ColumnPatch.{ColumnPatch}
use Rattle.model.specs.declared.cell.Cell.{Cell}
use Rattle.model.specs.declared.cell.Cell.TheVariants.{Uniq}
use Rattle.model.specs.declared.item.Item.{Item}
use Rattle.model.specs.declared.item.Item.TheVariants.{BackTo}
use Rattle.model.specs.Rows.{Rows, Schema, values_in, IsValid}
use Rattle.model.specs.Effect.{patch_row, outcome, effect, inverse, serial, inverses, all_back}
use Rattle.model.specs.Cells.{overlaps}
use Rattle.model.specs.Footprint.{looked_up, footprint, held_cells, shares_cell}
use Rattle.model.specs.Survivors.{survivors}
use Rattle.model.specs.CellContents.{unique_key, SameAt, AreSame}
use Rattle.model.specs.Cut.{IsCut}

-- ---- cells

-- cells overlap either way
abbrev pub OverlapsEitherWay : Type 0
OverlapsEitherWay = (cell other : Cell) → overlaps cell other ≡ overlaps other cell

-- a footprint depends on the looked-up row alone
abbrev pub FootprintByLookedUp : Type 0
FootprintByLookedUp =
    (schema : Schema) (rows others : Rows) (c : Change) → AreSame schema rows others (looked_up c)
    → footprint schema rows c ≡ footprint schema others c

-- whoever holds a cell of the looked-up row holds one of the footprint
abbrev pub LookedUpIsInFootprint : Type 0
LookedUpIsInFootprint =
    (schema : Schema) (rows : Rows) (c : Change) (cells : List Cell) → shares_cell (looked_up c) cells ≡ true
    → shares_cell (footprint schema rows c) cells ≡ true

-- a unique value that an update keeps is not in its footprint
abbrev pub KeptValueIsFree : Type 0
KeptValueIsFree =
    (schema : Schema) (rows : Rows) (table : ℕ) (key : Key) (patch : List ColumnPatch) (old : Record) (number : ℕ)
    (columns : List ℕ) (values : Key)
    → get rows (table, key) ≡ Some old → unique_key schema table number ≡ Some columns
    → values_in columns old ≡ Some values
    → values_in columns (patch_row patch old) ≡ Some values
    → list_any (overlaps (Uniq table number values)) (footprint schema rows (Set table key patch)) ≡ false

-- ---- one change

-- a change leaves each cell that none of its footprint overlaps
abbrev pub LeavesOtherCells : Type 0
LeavesOtherCells =
    (schema : Schema) (rows : Rows) (c : Change) (cell : Cell)
    → list_any (overlaps cell) (footprint schema rows c) ≡ false
    → SameAt schema rows (effect schema rows c) cell

-- where valid rows are the same in its footprint, its outcome is the same
abbrev pub SameOutcome : Type 0
SameOutcome =
    (schema : Schema) (rows others : Rows) → IsValid schema rows → IsValid schema others → (c : Change)
    → AreSame schema rows others (footprint schema rows c) → outcome schema rows c ≡ outcome schema others c

-- and its inverse
abbrev pub SameInverse : Type 0
SameInverse =
    (schema : Schema) (rows others : Rows) → IsValid schema rows → IsValid schema others → (c : Change)
    → AreSame schema rows others (footprint schema rows c) → inverse schema rows c ≡ inverse schema others c

-- and what else was the same before it is the same after it
abbrev pub SameStays : Type 0
SameStays =
    (schema : Schema) (rows others : Rows) → IsValid schema rows → IsValid schema others → (c : Change)
    → AreSame schema rows others (footprint schema rows c) → (cell : Cell) → SameAt schema rows others cell
    → SameAt schema (effect schema rows c) (effect schema others c) cell

-- ---- two changes, and two lists of them

-- two changes that share no cell come in either order, and neither changes what comes of the other
abbrev pub ChangesCommute : Type 0
ChangesCommute =
    (schema : Schema) (rows : Rows) → IsValid schema rows → (c other : Change)
    → shares_cell (footprint schema rows c) (footprint schema rows other) ≡ false
    → (effect schema (effect schema rows c) other ≡ effect schema (effect schema rows other) c)
    × (outcome schema (effect schema rows other) c ≡ outcome schema rows c)
    × (footprint schema (effect schema rows other) c ≡ footprint schema rows c)

-- so do lists of them
abbrev pub ListsCommute : Type 0
ListsCommute =
    (schema : Schema) (rows : Rows) → IsValid schema rows → (cs others : List Change)
    → shares_cell (held_cells schema rows cs) (held_cells schema rows others) ≡ false
    → serial schema (serial schema rows cs) others ≡ serial schema (serial schema rows others) cs

-- what a list holds and what takes it back don't move past one that shares no cell with it
abbrev pub ListsKeepTheirs : Type 0
ListsKeepTheirs =
    (schema : Schema) (rows : Rows) → IsValid schema rows → (cs others : List Change)
    → shares_cell (held_cells schema rows cs) (held_cells schema rows others) ≡ false
    → (held_cells schema rows cs ≡ held_cells schema (serial schema rows others) cs)
    × (inverses schema rows cs ≡ inverses schema (serial schema rows others) cs)

-- the inverses of changes, put back past others that share no cell with them, give the rows before them with the others
abbrev pub UndonePastOthers : Type 0
UndonePastOthers =
    (schema : Schema) (rows : Rows) → IsValid schema rows → (cs others : List Change)
    → shares_cell (held_cells schema rows cs) (held_cells schema rows others) ≡ false
    → all_back (serial schema (serial schema rows cs) others) (inverses schema rows cs) ≡ serial schema rows others

-- ---- rollbacks

-- a rollback of a subtransaction cuts the survivors before their first item that names it
abbrev pub RollbackCuts : Type 0
RollbackCuts =
    (top sub : ℕ) (items : List Item) → sub ≢ top
    → (rest : List Item) × IsCut sub (survivors top items) (survivors top (items ++ BackTo sub ∷ [])) rest

-- one to the top transaction cuts nothing
abbrev pub TopCutsNothing : Type 0
TopCutsNothing = (top : ℕ) (items : List Item) → survivors top (items ++ BackTo top ∷ []) ≡ survivors top items
