-- The end, where one hand has the line and all tickets: the store as one world.
--     opened_in      the open transactions, each with what its ticket tells
--     whole      the world that start, line, tickets and stop tell
--     HasTicketOf, HasShareOf      a transaction has one of the tickets; one with a share of a table
--     AreDifferent, AreOpen      the tickets are of different transactions; each is open by the line
--     AreAllOpen      they are those of the transactions that are open by the line
--     IsWhole      that world is one that a run may have, and just those are open in it
--     AreTickets      what the types of the tickets keep
--     HasAll      a part has of each transaction what its ticket tells
--     IsMetIn, IsMetAt, AreMetIn      under the lock of a table lies its part, as line and tickets tell it; under that of a guard, if
--         there is one; under each of these
--     WantsIn      what a transaction waits with, if it waits, is something in a table
--     WantsStill      whether a transaction that has a ticket wants something
--     IsNotedIn, IsNotedBy      a clash stopped the store, as the table of its change knows; as one of these does
--     IsMetWhole      what is learned under all locks
--     AreSameStates      the same lies under the locks
--     numbers_of, numbers_at      the numbers of the transactions; of those with a share of a table
use Rattle.std.specs.Prelude.{◌≡◌, ◌≢◌, ℕ, ◌<◌, ◌≤◌, Bool, true, false, List, [], ◌∷◌, Option, Some, None, IsSome, is_some, filter, map, length, slice_get}
use Rattle.std.specs.Ordering.{nat_cmp}
use Rattle.std.specs.FinMap as finite
use Rattle.std.specs.FinMap.{FinMap, get, insert}
use Rattle.model.specs.declared.change.Change.{Change}
use Rattle.model.specs.Effect.{ClashCause, serial}
use Rattle.model.specs.Rows.{Rows, Schema}
use Rattle.tokens.specs.Half.{Name}
use Rattle.world.specs.World.{Opened, Stop, ByClash, World, changes_in}
use Rattle.world_parts.specs.ByTable.{change_at, IsIn}
use Rattle.world_parts.specs.Led.{IsLed}
use Rattle.world_parts.specs.Lines.{line_at}
use Rattle.engine.specs.declared.events.LineEvent.{LineEvent}
use Rattle.engine.specs.Events.{opened_by, commits_in, is_open_in}
use Rattle.table_parts.specs.Part.{Part}
use Rattle.parted_store.specs.Lent.{OpenTicket, HasShares, Stands}
use Rattle.parted_store.specs.Shares.{share_of}
use Rattle.table_locks.specs.Lending.{Guards, state_at}
use Rattle.table_locks.specs.TableStates.{TableState, Fits}
use Rattle.table_locks.specs.Tickets.{IsTicketOf}

-- ---- the world

-- the open transactions, each with what its ticket tells
abbrev pub opened_in : List OpenTicket → FinMap nat_cmp Opened
opened_in [] = finite.empty
opened_in (t ∷ tickets) = insert (opened_in tickets) t.number (opened_by t.events)

-- the world that start, line, tickets and stop tell
abbrev pub whole : Schema → Rows → List LineEvent → List OpenTicket → Option Stop → World
whole schema start line tickets stopped = record {
  start = start;
  committed = serial schema start (changes_in (commits_in line));
  line = commits_in line;
  opened = opened_in tickets;
  stopped = stopped;
}

-- one of the tickets is this transaction's
abbrev pub HasTicketOf : List OpenTicket → ℕ → Type 0
HasTicketOf tickets xid = (i : ℕ) × (t : OpenTicket) × (slice_get tickets i ≡ Some t) × (t.number ≡ xid)

-- the tickets are of different transactions
abbrev pub AreDifferent : List OpenTicket → Type 0
AreDifferent tickets =
    (i j : ℕ) (t u : OpenTicket) → i < j → slice_get tickets i ≡ Some t → slice_get tickets j ≡ Some u → t.number ≢ u.number

-- each of these is open by the line
abbrev pub AreOpen : List LineEvent → List OpenTicket → Type 0
AreOpen line tickets = (i : ℕ) (t : OpenTicket) → slice_get tickets i ≡ Some t → is_open_in line t.number ≡ true

-- The tickets are of different transactions, just those that are open by the line.
pub record AreAllOpen (line : List LineEvent) (tickets : List OpenTicket) : Type 0 where
  pub apart : AreDifferent tickets
  pub each : AreOpen line tickets
  pub all : (xid : ℕ) → is_open_in line xid ≡ true → HasTicketOf tickets xid

-- The world is one that a run may have: parts of calls lead to each of its parts, and it is sound. Just those are open in it that
-- the line tells, each with what its ticket tells.
pub record IsWhole (schema : Schema) (start : Rows) (line : List LineEvent) (tickets : List OpenTicket) (stopped : Option Stop) : Type 0 where
  pub led : IsLed schema start (whole schema start line tickets stopped)
  pub opened : (xid : ℕ) → is_open_in line xid ≡ is_some (get (opened_in tickets) xid)
  pub stood : (i : ℕ) (t : OpenTicket) → slice_get tickets i ≡ Some t → get (opened_in tickets) t.number ≡ Some (opened_by t.events)

-- ---- what is learned under all locks

-- what the types of the tickets keep
abbrev pub AreTickets : (ℕ → Name) → Schema → List OpenTicket → Type 0
AreTickets shares schema tickets = (i : ℕ) (t : OpenTicket) → slice_get tickets i ≡ Some t → IsTicketOf shares schema t × HasShares t

-- one of the tickets is this transaction's, and has a share of the table
abbrev pub HasShareOf : List OpenTicket → ℕ → ℕ → Type 0
HasShareOf tickets table xid =
    (i : ℕ) × (t : OpenTicket) × (slice_get tickets i ≡ Some t) × (t.number ≡ xid) × IsSome (share_of t.shares table)

-- In the part each transaction has done what the share of its ticket tells, and no other is open there.
pub record HasAll (tickets : List OpenTicket) (p : Part) : Type 0 where
  pub stand : (i : ℕ) (t : OpenTicket) → slice_get tickets i ≡ Some t → Stands p t.shares
  pub closed : (xid : ℕ) (o : Opened) → get p.store.world.opened xid ≡ Some o → HasShareOf tickets p.number xid

module _ (shares : ℕ → Name) (tables : Name) (schema : Schema) (start : Rows) (line : List LineEvent) (tickets : List OpenTicket) where
  -- Under the lock of the table lies its part. Its commits are those that the line has in the table, and it has of each transaction
  -- what its ticket tells.
  pub record IsMetIn (table : ℕ) (s : TableState) (p : Part) : Type 0 where
    pub number : s.number ≡ table
    pub part : s.part ≡ Some p
    pub fits : Fits shares tables schema start s p
    pub commits : s.commits.list ≡ line_at table (commits_in line)
    pub has : HasAll tickets p

  -- so it is under the lock of a guard, which is there
  abbrev pub IsMetAt : ℕ → Option TableState → Type 0
  IsMetAt table found = (s : TableState) × (p : Part) × (found ≡ Some s) × IsMetIn table s p

  -- so it is of each table, whose guard lies in the place of its number
  abbrev pub AreMetIn : Guards → Type 0
  AreMetIn guards = (table : ℕ) → table < length schema → IsMetAt table (state_at guards table)

-- what the transaction waits with, if it waits, is something in the table
abbrev pub WantsIn : ℕ → OpenTicket → Type 0
WantsIn table t = (sub : ℕ) (e : Change) → (opened_by t.events).wants ≡ Some (sub, e) → change_at table e ≢ []

-- one of the tickets is of this transaction, and tells that it wants something; or none does
abbrev pub WantsStill : List OpenTicket → ℕ → Bool → Type 0
WantsStill tickets xid true =
    (i : ℕ) × (t : OpenTicket) × (slice_get tickets i ≡ Some t) × (t.number ≡ xid) × IsSome (opened_by t.events).wants
WantsStill tickets xid false =
    (i : ℕ) (t : OpenTicket) → slice_get tickets i ≡ Some t → t.number ≡ xid → (opened_by t.events).wants ≡ None

-- The change is one of the table alone, which knows that it stopped the store so. Its transaction waits with nothing else.
pub record IsNotedIn (tickets : List OpenTicket) (stopped : Option Stop) (xid : ℕ) (c : Change) (table : ℕ) (s : TableState) : Type 0 where
  pub inside : IsIn table c
  pub noted : s.stopped ≡ stopped
  pub wants : (i : ℕ) (t : OpenTicket) → slice_get tickets i ≡ Some t → t.number ≡ xid → WantsIn table t

-- where a clash stopped the store, so it is of one of so many tables
abbrev pub IsNotedBy : ℕ → List OpenTicket → Guards → Option Stop → Type 0
IsNotedBy count tickets guards stopped =
    (xid : ℕ) (c : Change) (cause : ClashCause) → stopped ≡ Some (ByClash xid c cause)
    → (table : ℕ) × (s : TableState) × (table < count) × (state_at guards table ≡ Some s) × IsNotedIn tickets stopped xid c table s

-- What is learned under all locks, by whoever has the line and all tickets. Beyond the tables the line has no commits.
pub record IsMetWhole (shares : ℕ → Name) (tables : Name) (schema : Schema) (start : Rows) (line : List LineEvent) (tickets : List OpenTicket) (guards : Guards)
    (stopped : Option Stop) : Type 0 where
  pub tickets_are : AreTickets shares schema tickets
  pub open_are : AreAllOpen line tickets
  pub met : AreMetIn shares tables schema start line tickets guards
  pub beyond : (table : ℕ) → length schema ≤ table → line_at table (commits_in line) ≡ []
  pub noted : IsNotedBy (length schema) tickets guards stopped

-- ---- of guards and tickets

-- the same lies under the locks
abbrev pub AreSameStates : Guards → Guards → Type 0
AreSameStates guards new = ((i : ℕ) → state_at new i ≡ state_at guards i) × (length new ≡ length guards)

-- the numbers of the transactions
abbrev pub numbers_of : List OpenTicket → List ℕ
numbers_of tickets = map (λ (t : OpenTicket). t.number) tickets

-- of those with a share of the table
abbrev pub numbers_at : ℕ → List OpenTicket → List ℕ
numbers_at table tickets = numbers_of (filter (λ (t : OpenTicket). is_some (share_of t.shares table)) tickets)
