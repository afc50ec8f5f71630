-- When no more can come of the items that were sent.
--     WaitsFor      an open transaction waits with a change for a cell of another
--     IsNamed, IsSettled      its items are all that were sent; each open transaction is named so, or waits
use Rattle.std.specs.Prelude.{◌≡◌, ℕ, ◌<◌, ◌-◌, ◌^◌, List, Some, length, Contains, ◌⊎◌}
use Rattle.std.specs.FinMap.{get}
use Rattle.model.specs.declared.change.Change.{Change}
use Rattle.model.specs.Rows.{Schema}
use Rattle.model.specs.Footprint.{footprint}
use Rattle.world.specs.World.{Opened, World, own_rows, IsHeldBy}

-- It waits with a change that looks up or alters a cell that the holder holds.
abbrev pub WaitsFor : Schema → World → ℕ → Opened → ℕ → Type 0
WaitsFor schema w xid o holder =
    (sub : ℕ) × (c : Change) × (o.wants ≡ Some (sub, c)) × IsHeldBy schema w xid
    (footprint schema (own_rows schema w xid o) c) holder

-- It is named with just as many items as it has done, which a u64 counts short of its last number.
abbrev pub IsNamed : List (ℕ × ℕ) → ℕ → Opened → Type 0
IsNamed sent xid o = Contains sent (xid, length o.items) × (length o.items < 2 ^ 64 - 1)

-- Each open transaction is named so, or waits for a cell of another.
abbrev pub IsSettled : Schema → World → List (ℕ × ℕ) → Type 0
IsSettled schema w sent =
    (xid : ℕ) (o : Opened) → get w.opened xid ≡ Some o
    → IsNamed sent xid o ⊎ ((holder : ℕ) × WaitsFor schema w xid o holder)
