-- Who waits for whom, by the tickets of the open transactions and what lies under the locks of all tables.
--     WaitsAt, WaitsNowhere      a ticket's transaction waits for another in the part of one of so many tables; in none of them
--     IsSettledAt, IsUnsettledAt      it has done as many items as were sent to it, or waits; it has not, and doesn't wait
--     TellsWaiting      whom the transaction of one number waits for, or that it waits for nobody
--     TellsStuck      the same where each is settled
use Rattle.std.specs.Prelude.{◌≡◌, ◌⊎◌, ◌<◌, ℕ, List, Option, Some, None, slice_get}
use Rattle.live_tables.specs.Waits.{IsSentCount}
use Rattle.table_parts.specs.Part.{Part}
use Rattle.parted_store.specs.Lent.{OpenTicket, WaitsIn}
use Rattle.table_locks.specs.Lending.{Guards, state_at}
use Rattle.table_locks.specs.TableStates.{TableState}
use Rattle.table_locks.specs.Tickets.{counted}

-- in a part that lies under the lock of one of the first so many tables its transaction waits for the holder
abbrev pub WaitsAt : Guards → ℕ → OpenTicket → ℕ → Type 0
WaitsAt guards count t holder =
    (table : ℕ) × (s : TableState) × (p : Part) × (table < count) × (state_at guards table ≡ Some s) × (s.part ≡ Some p) × WaitsIn p t.shares holder

abbrev pub WaitsNowhere : Guards → ℕ → OpenTicket → Type 0
WaitsNowhere guards count t = (holder : ℕ) → ¬ (WaitsAt guards count t holder)

-- it has done as many items as were sent to it, or waits
abbrev pub IsSettledAt : Guards → ℕ → List (ℕ × ℕ) → OpenTicket → Type 0
IsSettledAt guards count sent t = IsSentCount sent t.number (counted t.events) ⊎ ((holder : ℕ) × WaitsAt guards count t holder)

-- it has not, and doesn't wait
abbrev pub IsUnsettledAt : Guards → ℕ → List (ℕ × ℕ) → OpenTicket → Type 0
IsUnsettledAt guards count sent t = ¬ (IsSentCount sent t.number (counted t.events)) × WaitsNowhere guards count t

-- a ticket is of this transaction, and tells that it waits for the holder; or each of it tells that it waits for nobody
abbrev pub TellsWaiting : Guards → ℕ → List OpenTicket → ℕ → Option ℕ → Type 0
TellsWaiting guards count tickets xid (Some holder) =
    (i : ℕ) × (t : OpenTicket) × (slice_get tickets i ≡ Some t) × (t.number ≡ xid) × WaitsAt guards count t holder
TellsWaiting guards count tickets xid None =
    (i : ℕ) (t : OpenTicket) → slice_get tickets i ≡ Some t → t.number ≡ xid → WaitsNowhere guards count t

-- It waits for the holder, and each is settled; or it waits for nobody, or one isn't settled.
abbrev pub TellsStuck : Guards → ℕ → List OpenTicket → List (ℕ × ℕ) → ℕ → Option ℕ → Type 0
TellsStuck guards count tickets sent xid (Some holder) =
    TellsWaiting guards count tickets xid (Some holder)
    × ((i : ℕ) (t : OpenTicket) → slice_get tickets i ≡ Some t → IsSettledAt guards count sent t)
TellsStuck guards count tickets sent xid None =
    TellsWaiting guards count tickets xid None
    ⊎ ((i : ℕ) × (t : OpenTicket) × (slice_get tickets i ≡ Some t) × IsUnsettledAt guards count sent t)
