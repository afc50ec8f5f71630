-- What transactions hold: cells, each with what stood there, in the order in which they were first held.
--     holds_of, cells_held      what a transaction holds; its cells alone
--     with_hold, with_holds      what is held once a cell is taken; once cells are taken in turn
--     ReleasesLast      the cell held last goes, if more than so many are held
--     IsFreeCell, IsCellHeldBy      no other transaction holds a cell that overlaps; this one does
--     IsFirstHeldBy      it does so for the first cell of a list that another has
--     AreDisjoint      no two transactions hold cells that overlap
use Rattle.std.specs.Prelude.{◌≡◌, ◌≢◌, ℕ, ◌≤◌, Bool, false, List, [], ◌∷◌, ◌++◌, length, Option, Some, None, IsTrue, is_some, if◌then◌else◌, unwrap_or, fold, take, slice_get, All, Contains}
use Rattle.std.specs.Ordering.{nat_cmp, eq_by_cmp}
use Rattle.std.specs.FinMap.{FinMap, get}
use Rattle.std.specs.Map.{lookup, keys_of}
use Rattle.model.specs.declared.cell.Cell.{Cell}
use Rattle.model.specs.Cells.{overlaps}
use Rattle.model.specs.CellOrder.{cell_cmp}

module _ {S : Type 0} where
  -- what a transaction holds; nothing where it has no entry
  abbrev pub holds_of : FinMap nat_cmp (List (Cell × S)) → ℕ → List (Cell × S)
  holds_of holds xid = unwrap_or (get holds xid) []

  -- its cells alone
  abbrev pub cells_held : FinMap nat_cmp (List (Cell × S)) → ℕ → List Cell
  cells_held holds xid = keys_of (holds_of holds xid)

  -- a transaction that holds nothing has no entry
  abbrev pub HasNoEmptyList : FinMap nat_cmp (List (Cell × S)) → Type 0
  HasNoEmptyList holds = (xid : ℕ) → get holds xid ≢ Some []

  -- the cell is among those held
  abbrev pub has_cell : Cell → List (Cell × S) → Bool
  has_cell cell held = is_some (lookup (eq_by_cmp cell_cmp cell) held)

  -- what is held once a cell is taken: one that is held already stays as it is
  abbrev pub with_hold : List (Cell × S) → Cell × S → List (Cell × S)
  with_hold held hold = if has_cell hold.0 held then held else held ++ hold ∷ []

  -- once cells are taken in turn
  abbrev pub with_holds : List (Cell × S) → List (Cell × S) → List (Cell × S)
  with_holds held holds = fold with_hold held holds

  -- the cell held last goes, if more than so many are held; without one, nothing changes
  abbrev pub ReleasesLast : ℕ → List (Cell × S) → List (Cell × S) → Option Cell → Type 0
  ReleasesLast mark old new None = (length old ≤ mark) × (new ≡ old)
  ReleasesLast mark old new (Some cell) = (before_image : S) × (old ≡ new ++ (cell, before_image) ∷ []) × (mark ≤ length new)

-- ---- by the cells that each transaction holds

-- no other transaction holds a cell that overlaps it
abbrev pub IsFreeCell : (ℕ → List Cell) → ℕ → Cell → Type 0
IsFreeCell held xid cell = (other : ℕ) (d : Cell) → other ≢ xid → Contains (held other) d → overlaps cell d ≡ false

-- another transaction, the holder, holds a cell that overlaps it
pub record IsCellHeldBy (held : ℕ → List Cell) (xid : ℕ) (cell : Cell) (holder : ℕ) : Type 0 where
  pub another : holder ≢ xid
  pub its : Cell
  pub holds : Contains (held holder) its
  pub overlap : IsTrue (overlaps cell its)

-- the holder has the first cell of a list that another transaction has
pub record IsFirstHeldBy (held : ℕ → List Cell) (xid : ℕ) (cells : List Cell) (holder : ℕ) : Type 0 where
  pub address : ℕ
  pub cell : Cell
  pub at : slice_get cells address ≡ Some cell
  pub before : All (IsFreeCell held xid) (take address cells)
  pub here : IsCellHeldBy held xid cell holder

-- no two transactions hold cells that overlap
abbrev pub AreDisjoint : (ℕ → List Cell) → Type 0
AreDisjoint held = (xid other : ℕ) (c d : Cell) → other ≢ xid → Contains (held xid) c → Contains (held other) d → overlaps c d ≡ false

-- a transaction holds the cell, and this stood there when it was first held
pub record BeforeImageAt {S : Type 0} (holds : FinMap nat_cmp (List (Cell × S))) (cell : Cell) (before_image : S) : Type 0 where
  pub holder : ℕ
  pub among : Contains (holds_of holds holder) (cell, before_image)
