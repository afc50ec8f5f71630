-- Who waits for whom, by the live tables and the cells that are held: the cell of the row that a change looks up is asked
-- first, and where that is free all its cells.
--     IsOneHeldBy      another transaction has one of these cells
--     WaitsLive, PassesLive      it has a cell of a change; nobody else has one
--     WaitsByHolds, WaitsForNobody      so it is with the change that a transaction wants
--     IsSentCount      a count of items that is named
--     IsUnsettledLive      a transaction is not named so and waits for nobody
--     IsSettledLive, IsNotStuck      no more can come of the items sent; more can, or the waiter waits for nobody
use Rattle.std.specs.Prelude.{◌≡◌, ◌⊎◌, ◌<◌, ◌-◌, ◌^◌, ℕ, List, Some, None, All}
use Rattle.std.specs.List.{Contains}
use Rattle.std.specs.FinMap.{get}
use Rattle.model.specs.declared.change.Change.{Change}
use Rattle.model.specs.declared.cell.Cell.{Cell}
use Rattle.model.specs.Rows.{Rows, Schema}
use Rattle.model.specs.Footprint.{looked_up, footprint}
use Rattle.keyholds.specs.Holds.{IsFreeCell, IsCellHeldBy}
use Rattle.world.specs.World.{Opened, World}
use Rattle.world.specs.Settled.{IsNamed}

-- the holder has a cell that overlaps one of these
abbrev pub IsOneHeldBy : (ℕ → List Cell) → ℕ → List Cell → ℕ → Type 0
IsOneHeldBy held xid cells holder = (cell : Cell) × Contains cells cell × IsCellHeldBy held xid cell holder

-- the holder has the cell of the row that the change looks up, or else any cell of the change
abbrev pub WaitsLive : Schema → Rows → (ℕ → List Cell) → ℕ → Change → ℕ → Type 0
WaitsLive schema live held xid c holder =
    IsOneHeldBy held xid (looked_up c) holder ⊎ (All (IsFreeCell held xid) (looked_up c) × IsOneHeldBy held xid (footprint schema live c) holder)

-- nobody else has the one, nor then any other
abbrev pub PassesLive : Schema → Rows → (ℕ → List Cell) → ℕ → Change → Type 0
PassesLive schema live held xid c = All (IsFreeCell held xid) (looked_up c) × All (IsFreeCell held xid) (footprint schema live c)

-- the transaction wants a change of which the holder has a cell
abbrev pub WaitsByHolds : Schema → Rows → (ℕ → List Cell) → ℕ → Opened → ℕ → Type 0
WaitsByHolds schema live held xid o holder = (sub : ℕ) × (c : Change) × (o.wants ≡ Some (sub, c)) × WaitsLive schema live held xid c holder

-- it wants none, or one of which nobody else has a cell
abbrev pub WaitsForNobody : Schema → Rows → (ℕ → List Cell) → ℕ → Opened → Type 0
WaitsForNobody schema live held xid o =
    (o.wants ≡ None) ⊎ ((sub : ℕ) × (c : Change) × (o.wants ≡ Some (sub, c)) × PassesLive schema live held xid c)

-- each open transaction is named with as many items as it has done, or waits
abbrev pub IsSettledLive : Schema → Rows → (ℕ → List Cell) → World → List (ℕ × ℕ) → Type 0
IsSettledLive schema live held w sent =
    (xid : ℕ) (o : Opened) → get w.opened xid ≡ Some o → IsNamed sent xid o ⊎ ((holder : ℕ) × WaitsByHolds schema live held xid o holder)

-- some open transaction is not named so, and waits for nobody
abbrev pub IsUnsettledLive : Schema → Rows → (ℕ → List Cell) → World → List (ℕ × ℕ) → Type 0
IsUnsettledLive schema live held w sent =
    (xid : ℕ) × (o : Opened) × (get w.opened xid ≡ Some o) × ¬ (IsNamed sent xid o) × WaitsForNobody schema live held xid o

-- it is named with so many items, which are fewer than a u64 counts up to
abbrev pub IsSentCount : List (ℕ × ℕ) → ℕ → ℕ → Type 0
IsSentCount sent xid done = Contains sent (xid, done) × (done < 2 ^ 64 - 1)

-- The waiter isn't open or waits for nobody, or some transaction isn't named so and waits for nobody.
pub data IsNotStuck (schema : Schema) (live : Rows) (held : ℕ → List Cell) (w : World) (sent : List (ℕ × ℕ)) (waiter : ℕ) : Type 0 where
  not_open : get w.opened waiter ≡ None → IsNotStuck schema live held w sent waiter
  not_waiting : (o : Opened) → get w.opened waiter ≡ Some o → WaitsForNobody schema live held waiter o → IsNotStuck schema live held w sent waiter
  not_settled : (xid : ℕ) (o : Opened) → get w.opened xid ≡ Some o → ¬ (IsNamed sent xid o) → WaitsForNobody schema live held xid o
      → IsNotStuck schema live held w sent waiter
