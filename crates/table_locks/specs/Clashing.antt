-- How a clash is told, where of the other tables nothing is known.
--     WasClash      a change clashed in a part of its table to which calls lead
use Rattle.std.specs.Prelude.{◌≡◌, ℕ, Some}
use Rattle.std.specs.FinMap.{get}
use Rattle.model.specs.declared.change.Change.{Change}
use Rattle.model.specs.Rows.{Rows, Schema}
use Rattle.change.specs.declared.outcome.Clash.{Clash}
use Rattle.world.specs.World.{Opened, World, starting}
use Rattle.world_parts.specs.ByTable.{rows_at, IsIn}
use Rattle.world_parts.specs.Reached.{PartReaches}
use Rattle.live_tables.specs.Tried.{HasClash}

-- The change is one of the table alone. Parts of calls lead from the table's start rows to a part in which the transaction is
-- open, and in which, as it sees the rows, the change clashes so.
pub record WasClash (schema : Schema) (start : Rows) (xid : ℕ) (c : Change) (clash : Clash) : Type 0 where
  pub table : ℕ
  pub inside : IsIn table c
  pub part : World
  pub reached : ∥ PartReaches schema table (starting (rows_at table start)) part ∥₁
  pub its : Opened
  pub open_one : get part.opened xid ≡ Some its
  pub clashes : HasClash schema part xid its c clash
