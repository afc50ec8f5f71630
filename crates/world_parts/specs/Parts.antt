-- The part of a table in a world, which is itself a world: that of one table.
--     work_if, wanted_if      what a transaction has done, and what it wants; nothing where it isn't open
--     own_if      the rows as it sees them
--     IsPartOf      the committed rows of the table, and of each transaction its changes there and what it wants there
--     after_tried      the world once a change was tried, by what came of it
--     rested      the world once a transaction waits no more
use Rattle.std.specs.Prelude.{◌≡◌, ℕ, List, [], ◌∷◌, Option, Some, None}
use Rattle.std.specs.FinMap.{get, insert}
use Rattle.model.specs.declared.change.Change as change_type
use Rattle.model.specs.declared.item.Item.TheVariants.{Change}
use Rattle.model.specs.Rows.{Rows, Schema}
use Rattle.model.specs.Effect.{serial}
use Rattle.world.specs.World.{Opened, ByClash, World, work}
use Rattle.world.specs.Steps.{Acted, IsDone, IsSkipped, Held, Clashed, done_with, wanting}
use Rattle.world_parts.specs.ByTable.{rows_at, changes_at}

-- the changes of a transaction that survive; none where it isn't open
abbrev pub work_if : ℕ → Option Opened → List change_type.Change
work_if xid None = []
work_if xid (Some o) = work xid o

-- the change that it waits with, or that clashed
abbrev pub wanted_by : Option (ℕ × change_type.Change) → List change_type.Change
wanted_by None = []
wanted_by (Some wants) = wants.1 ∷ []

-- of a transaction that may be open
abbrev pub wanted_if : Option Opened → List change_type.Change
wanted_if None = []
wanted_if (Some o) = wanted_by o.wants

-- the rows as it sees them: the committed ones with its own changes
abbrev pub own_if : Schema → World → ℕ → Rows
own_if schema w xid = serial schema w.committed (work_if xid (get w.opened xid))

-- The part of a table. Where a transaction has done nothing in the table, and wants nothing there, it need not be open
-- in the part.
pub record IsPartOf (table : ℕ) (w part : World) : Type 0 where
  pub committed : part.committed ≡ rows_at table w.committed
  pub work : (xid : ℕ) → work_if xid (get part.opened xid) ≡ changes_at table (work_if xid (get w.opened xid))
  pub wanted : (xid : ℕ) → wanted_if (get part.opened xid) ≡ changes_at table (wanted_if (get w.opened xid))

-- the world once a change was tried, by what came of it
abbrev pub after_tried : World → ℕ → Opened → ℕ → change_type.Change → Acted → World
after_tried w xid o sub c IsDone = done_with w xid o (Change sub c)
after_tried w xid o sub c IsSkipped = done_with w xid o (Change sub c)
after_tried w xid o sub c (Held holder) = wanting w xid o sub c
after_tried w xid o sub c (Clashed cause) = record (wanting w xid o sub c) { stopped = Some (ByClash xid c cause) }

-- the world once an open transaction waits no more
abbrev pub rested : World → ℕ → Opened → World
rested w xid o = record w { opened = insert w.opened xid (record o { wants = None }) }
