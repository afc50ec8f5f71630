-- What a call is lent of a world: parts of its tables, the journal's part, and the ticket of an open transaction.
--     OpenTicket      a ticket as its callers see it
--     HasTable, HasJournal, HasTicket      the world has this part, this journal's part, this ticket
--     IsShare      what a ticket knows of a table in which it has a share, and of one in which it has none
--     IsSamePart      a part later on: of the same table, with the same keys and tickets
--     Belongs      the share is one of the part
--     Stands      in the part its transaction has done just what the share tells
--     WaitsIn      there it waits for another
use Rattle.std.specs.Prelude.{◌≡◌, ℕ, List, [], Option, Some, None, is_some}
use Rattle.std.specs.FinMap as finite
use Rattle.std.specs.FinMap.{get}
use Rattle.world.specs.World.{Opened, World, work}
use Rattle.world.specs.Settled.{WaitsFor}
use Rattle.world_parts.specs.ByTable.{changes_at}
use Rattle.world_parts.specs.Lines.{HasLine}
use Rattle.world_parts.specs.Parts.{wanted_by}
use Rattle.world_parts.specs.Marks.{HasPart}
use Rattle.table_parts.specs.Part.{Part}
use Rattle.engine.specs.declared.events.Event.{Event}
use Rattle.engine.specs.Engine.{IsOtherwiseSame}
use Rattle.engine.specs.Events.{opened_by, commits_in, is_open_in}
use Rattle.parted_store.specs.Journal.{JournalPart}
use Rattle.parted_store.specs.Shares.{Share, Shares, share_of}

-- a ticket as its callers see it
pub record OpenTicket : Type 0 where
  pub number : ℕ
  -- what happened to its transaction
  pub events : List Event
  -- its shares of the tables' parts
  pub shares : Shares

-- The world has this part of a table, to which just the items were told that its transactions did
-- there, and the part's line.
pub record HasTable (w : World) (p : Part) : Type 0 where
  pub is : HasPart p.number w p.store.world
  pub line : HasLine p.number w p.store.world

-- A part later on: of the same table, with the same keys and tickets.
pub record IsSamePart (p q : Part) : Type 0 where
  pub number : q.number ≡ p.number
  pub store : IsOtherwiseSame p.store q.store

-- The world has this journal's part: the commits, what stopped it, and who is open.
pub record HasJournal (w : World) (j : JournalPart) : Type 0 where
  pub line : w.line ≡ commits_in j.line.list
  pub stopped : w.stopped ≡ j.stopped
  pub opened : (xid : ℕ) → is_some (get w.opened xid) ≡ is_open_in j.line.list xid
  pub count : finite.len w.opened ≡ j.open_count

-- The ticket's transaction is open in the world, and has done what the ticket says.
abbrev pub HasTicket : World → OpenTicket → Type 0
HasTicket w t = get w.opened t.number ≡ Some (opened_by t.events)

-- Where a transaction has no share, it has done nothing and wants nothing; a share is of its number.
abbrev pub IsShare : ℕ → Opened → ℕ → Option Share → Type 0
IsShare xid o table None = (changes_at table (work xid o) ≡ []) × (changes_at table (wanted_by o.wants) ≡ [])
IsShare xid o table (Some share) = share.number ≡ xid

-- what the type of a ticket keeps of each table
abbrev pub HasShares : OpenTicket → Type 0
HasShares t = (table : ℕ) → IsShare t.number (opened_by t.events) table (share_of t.shares table)

-- the share of the part's table, if there is one, is a ticket of the part
abbrev pub Belongs : Part → Shares → Type 0
Belongs p shares = (share : Share) → share_of shares p.number ≡ Some share → share.name ≡ p.store.tickets

-- in the part the transaction of the share of its table, if there is one, has done just what the share tells
abbrev pub Stands : Part → Shares → Type 0
Stands p shares =
    (share : Share) → share_of shares p.number ≡ Some share → get p.store.world.opened share.number ≡ Some (opened_by share.list)

-- the transaction of the share of its table waits in the part for the holder, with what it wants there
abbrev pub WaitsIn : Part → Shares → ℕ → Type 0
WaitsIn p shares holder =
    (share : Share) × (share_of shares p.number ≡ Some share)
    × WaitsFor p.store.schema p.store.world share.number (opened_by share.list) holder
