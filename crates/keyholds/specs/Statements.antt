-- The laws of what is held once cells are taken, which `laws` promises.
use Rattle.std.specs.Prelude.{◌≡◌, ◌≢◌, ℕ, ◌≤◌, ◌↔◌, ◌⊎◌, List, Some, take, length, slice_get, All, Contains}
use Rattle.std.specs.Map.{keys_of}
use Rattle.model.specs.declared.cell.Cell.{Cell}
use Rattle.keyholds.specs.Holds.{with_holds, IsFreeCell, AreDisjoint}

-- once cells were taken, a cell is held exactly where it was held before or is among them
abbrev pub TakingAddsCells : Type 0 → Type 0
TakingAddsCells S =
    (held more : List (Cell × S)) (cell : Cell) → Contains (keys_of (with_holds held more)) cell ↔ (Contains (keys_of held) cell ⊎ Contains (keys_of more) cell)

-- what was held before is the front of what is held then
abbrev pub TakingKeepsHeld : Type 0 → Type 0
TakingKeepsHeld S = (held more : List (Cell × S)) → take (length held) (with_holds held more) ≡ held

-- what is held then was held before, or is one of those taken, behind all that was held, and no cell before it is the same
abbrev pub TakingAddsEach : Type 0 → Type 0
TakingAddsEach S =
    (held more : List (Cell × S)) (index : ℕ) (hold : Cell × S) → slice_get (with_holds held more) index ≡ Some hold
    → (slice_get held index ≡ Some hold)
    ⊎ ((length held ≤ index) × Contains more hold × (Contains (keys_of (take index (with_holds held more))) hold.0 → ⊥))

-- all stay apart where a transaction takes cells that are free for it, and no other changes
abbrev pub TakingKeepsApart : Type 0
TakingKeepsApart =
    (held new : ℕ → List Cell) (xid : ℕ) (cells : List Cell) → AreDisjoint held → All (IsFreeCell held xid) cells
    → ((cell : Cell) → Contains (new xid) cell → Contains (held xid) cell ⊎ Contains cells cell)
    → ((other : ℕ) → other ≢ xid → new other ≡ held other) → AreDisjoint new
