-- Several open transactions over the committed rows.
--     is_xid      two xids are one
--     Opened      what an open transaction has done, and the change that waits or clashed
--     Past, Entry, journal      a commit with the items done behind it; the commits as they are told, by changes
--     Stop, World, starting      what can stop a world; the world; the one before the first call
--     ends_of      where the log goes on behind each commit
--     work, changes_in      the changes of a transaction, and of commits, that survived their rollbacks
--     own_rows, holds      the rows as an open transaction sees them, and the cells that its changes hold
--     IsHeldBy, IsFree      some other open transaction holds one of these cells; none does
use Rattle.std.specs.Prelude.{◌≡◌, ◌≢◌, ℕ, Bool, true, false, List, [], Option, Some, None, map, flat_map}
use Rattle.std.specs.Ordering.{nat_cmp, eq_by_cmp}
use Rattle.std.specs.FinMap as finite
use Rattle.std.specs.FinMap.{FinMap, get}
use Rattle.model.specs.declared.change.Change.{Change}
use Rattle.model.specs.declared.cell.Cell.{Cell}
use Rattle.model.specs.declared.item.Item.{Item}
use Rattle.model.specs.declared.item.CommitInfo.{CommitInfo}
use Rattle.model.specs.Rows.{Rows, Schema}
use Rattle.model.specs.Effect.{ClashCause, serial}
use Rattle.model.specs.Footprint.{held_cells, shares_cell}
use Rattle.model.specs.Survivors.{survivors, changes_of}

-- the two are one xid
abbrev pub is_xid : ℕ → ℕ → Bool
is_xid = eq_by_cmp nat_cmp

-- an open transaction
pub record Opened : Type 0 where
  -- those that it has done, rollbacks among them
  pub items : List Item
  -- the change that it waits with, or that clashed, and the subtransaction that made it
  pub wants : Option (ℕ × Change)

-- a commit
pub record Past : Type 0 where
  pub xid : ℕ
  -- those that the transaction had done, rollbacks among them
  pub items : List Item
  pub info : CommitInfo

-- what stopped a world: a change that clashed, or one that waits for a cell that another transaction holds
pub data Stop : Type 0 where
  ByClash : (xid : ℕ) (change : Change) (cause : ClashCause) → Stop
  ByHold : (waiter holder : ℕ) → Stop

-- the open transactions, by their xid
abbrev pub OpenOnes : Type 0
OpenOnes = FinMap nat_cmp Opened

-- The committed rows, how they came about, and the transactions that are open over them.
pub record World : Type 0 where
  -- before the first commit
  pub start : Rows
  -- after the last
  pub committed : Rows
  -- the commits so far, in order
  pub line : List Past
  pub opened : OpenOnes
  pub stopped : Option Stop

-- before the first call
abbrev pub starting : Rows → World
starting rows = record { start = rows; committed = rows; line = []; opened = finite.empty; stopped = None }

-- ---- changes

-- the changes of an open transaction that survive its rollbacks
abbrev pub work : ℕ → Opened → List Change
work xid o = changes_of (survivors xid o.items)

-- those of a transaction that was committed
abbrev pub work_behind : Past → List Change
work_behind p = changes_of (survivors p.xid p.items)

-- those of all commits, in commit order
abbrev pub changes_in : List Past → List Change
changes_in line = flat_map work_behind line

-- where the log goes on behind each commit, in order
abbrev pub ends_of : World → List ℕ
ends_of w = map (λ (p : Past). p.info.end) w.line

-- a commit as it is told
pub record Entry : Type 0 where
  pub xid : ℕ
  pub changes : List Change
  pub commit : ℕ
  pub end : ℕ

-- the commit as it is told
abbrev pub entry_of : Past → Entry
entry_of p = record { xid = p.xid; changes = work_behind p; commit = p.info.commit; end = p.info.end }

-- the commits so far as they are told, in order
abbrev pub journal : World → List Entry
journal w = map entry_of w.line

-- ---- what an open transaction sees and holds

-- the committed rows with its own changes
abbrev pub own_rows : Schema → World → ℕ → Opened → Rows
own_rows schema w xid o = serial schema w.committed (work xid o)

-- the cells of its changes, each on the rows that it met
abbrev pub holds : Schema → World → ℕ → Opened → List Cell
holds schema w xid o = held_cells schema w.committed (work xid o)

-- Another open transaction, the holder, holds a cell that overlaps one of these.
abbrev pub IsHeldBy : Schema → World → ℕ → List Cell → ℕ → Type 0
IsHeldBy schema w xid cells holder =
    (holder ≢ xid) × (o : Opened) × (get w.opened holder ≡ Some o) ×
    (shares_cell cells (holds schema w holder o) ≡ true)

-- No other open transaction holds a cell that overlaps one of these.
abbrev pub IsFree : Schema → World → ℕ → List Cell → Type 0
IsFree schema w xid cells =
    (other : ℕ) (o : Opened) → other ≢ xid → get w.opened other ≡ Some o
    → shares_cell cells (holds schema w other o) ≡ false
