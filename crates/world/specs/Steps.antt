-- What each call does to a world: a relation of the world before, what is asked, what is answered, and the world after.
--     Opens, Acts, Touches, GoesBack, Commits, Aborts      the calls of a transaction
--     IsClashing      a change of a transaction clashes, and nobody else holds a cell of it
--     StopsHeld      the call that stops a world in which all wait
--     TellsStop, ReadsLive, ReadsCommitted, ReadsAfter, TellsJournal, Closes, Watches, Looks      they alter nothing
--     Step, Reaches      one call, whichever it is; calls one after another
use Rattle.std.specs.Prelude.{◌≡◌, ℕ, ◌<◌, ◌≤◌, List, [], ◌∷◌, ◌++◌, Option, Some, None, IsSome, Result, Ok, Err, IfOk, take}
use Rattle.std.specs.FinMap as finite
use Rattle.std.specs.FinMap.{get}
use Rattle.model.specs.declared.change.Change as change_type
use Rattle.model.specs.declared.row.Row.{Row}
use Rattle.model.specs.declared.item.Item.{Item}
use Rattle.model.specs.declared.item.Item.TheVariants.{Change, Touch, BackTo}
use Rattle.model.specs.declared.item.CommitInfo.{CommitInfo}
use Rattle.model.specs.Rows.{Place, Rows, Schema}
use Rattle.model.specs.TableRows.{rows_of_table}
use Rattle.model.specs.Effect.{ClashCause, Edits, Done, Skip, Clashes, outcome, serial}
use Rattle.model.specs.Footprint.{footprint}
use Rattle.model.specs.Limits.{most_open}
use Rattle.world.specs.World.{Opened, Entry, Stop, ByClash, ByHold, World, own_rows, changes_in, journal, IsHeldBy, IsFree}
use Rattle.world.specs.Settled.{WaitsFor, IsSettled}
use Rattle.world.specs.Live.{IsListing, live_rows}

-- why a call is refused
pub data Fault : Type 0 where
  AlreadyOpen : Fault
  TooManyOpen : Fault
  Stopped : Fault
  OutOfMemory : Fault

-- what comes of a change: it is done, or no row is there, or another transaction holds a cell of it, or it clashes
pub data Acted : Type 0 where
  IsDone : Acted
  IsSkipped : Acted
  Held : (holder : ℕ) → Acted
  Clashed : (cause : ClashCause) → Acted

-- ---- the next world

-- the transaction opens
abbrev pub opened_with : World → ℕ → World
opened_with w xid = record w { opened = finite.insert w.opened xid (record { items = []; wants = None }) }

-- it has done one more item, and waits no more
abbrev pub done_with : World → ℕ → Opened → Item → World
done_with w xid o item =
    record w { opened = finite.insert w.opened xid (record { items = o.items ++ item ∷ []; wants = None }) }

-- it wants a change, which it has not done
abbrev pub wanting : World → ℕ → Opened → ℕ → change_type.Change → World
wanting w xid o sub c = record w { opened = finite.insert w.opened xid (record o { wants = Some (sub, c) }) }

-- its work is committed
abbrev pub committed_with : Schema → World → ℕ → Opened → CommitInfo → World
committed_with schema w xid o info = record w {
  committed = own_rows schema w xid o;
  line = w.line ++ (record { xid = xid; items = o.items; info = info }) ∷ [];
  opened = finite.remove w.opened xid;
}

-- it is gone, and its work with it
abbrev pub aborted_with : World → ℕ → World
aborted_with w xid = record w { opened = finite.remove w.opened xid }

-- ---- the calls of a transaction

-- A transaction opens. Stopped goes before AlreadyOpen, and that before TooManyOpen.
abbrev pub Opens : World → ℕ → Result (Unit {0}) Fault → World → Type 0
Opens w xid (Ok u) new =
    (w.stopped ≡ None) × (get w.opened xid ≡ None) × (finite.len w.opened < most_open) × (new ≡ opened_with w xid)
Opens w xid (Err AlreadyOpen) new = (w.stopped ≡ None) × IsSome (get w.opened xid) × (new ≡ w)
Opens w xid (Err TooManyOpen) new =
    (w.stopped ≡ None) × (get w.opened xid ≡ None) × (most_open ≤ finite.len w.opened) × (new ≡ w)
Opens w xid (Err Stopped) new = IsSome w.stopped × (new ≡ w)
Opens w xid (Err OutOfMemory) new =
    (w.stopped ≡ None) × (get w.opened xid ≡ None) × (finite.len w.opened < most_open) × (new ≡ w)

-- A call of an open transaction is refused, and alters nothing.
abbrev pub IsRefused : World → Fault → World → Type 0
IsRefused w AlreadyOpen new = ⊥
IsRefused w TooManyOpen new = ⊥
IsRefused w Stopped new = IsSome w.stopped × (new ≡ w)
IsRefused w OutOfMemory new = (w.stopped ≡ None) × (new ≡ w)

-- A subtransaction of an open transaction tries a change, on the rows as the transaction sees them. Held goes before
-- any other outcome.
abbrev pub Acts : Schema → World → ℕ → Opened → ℕ → change_type.Change → Result Acted Fault → World → Type 0
Acts schema w xid o sub c (Ok IsDone) new =
    (w.stopped ≡ None) × IsFree schema w xid (footprint schema (own_rows schema w xid o) c)
    × ((edits : Edits) × (outcome schema (own_rows schema w xid o) c ≡ Done edits)) ×
    (new ≡ done_with w xid o (Change sub c))
Acts schema w xid o sub c (Ok IsSkipped) new =
    (w.stopped ≡ None) × IsFree schema w xid (footprint schema (own_rows schema w xid o) c)
    × (outcome schema (own_rows schema w xid o) c ≡ Skip) × (new ≡ done_with w xid o (Change sub c))
Acts schema w xid o sub c (Ok (Held holder)) new =
    (w.stopped ≡ None) × IsHeldBy schema w xid (footprint schema (own_rows schema w xid o) c) holder ×
    (new ≡ wanting w xid o sub c)
Acts schema w xid o sub c (Ok (Clashed cause)) new =
    (w.stopped ≡ None) × IsFree schema w xid (footprint schema (own_rows schema w xid o) c)
    × (outcome schema (own_rows schema w xid o) c ≡ Clashes cause)
    × (new ≡ record (wanting w xid o sub c) { stopped = Some (ByClash xid c cause) })
Acts schema w xid o sub c (Err fault) new = IsRefused w fault new

-- the change clashes on the transaction's own view, and meets no cell of another
abbrev pub IsClashing : Schema → World → ℕ → Opened → change_type.Change → ClashCause → Type 0
IsClashing schema w xid o c cause =
    IsFree schema w xid (footprint schema (own_rows schema w xid o) c) ×
    (outcome schema (own_rows schema w xid o) c ≡ Clashes cause)

-- A subtransaction of it is named by an item that changes no row.
abbrev pub Touches : World → ℕ → Opened → ℕ → Result (Unit {0}) Fault → World → Type 0
Touches w xid o sub (Ok u) new = (w.stopped ≡ None) × (new ≡ done_with w xid o (Touch sub))
Touches w xid o sub (Err fault) new = IsRefused w fault new

-- A subtransaction of it is rolled back, also in a world that is stopped.
abbrev pub GoesBack : World → ℕ → Opened → ℕ → World → Type 0
GoesBack w xid o sub new = new ≡ done_with w xid o (BackTo sub)

-- It commits, also in a world that is stopped.
abbrev pub Commits : Schema → World → ℕ → Opened → CommitInfo → World → Type 0
Commits schema w xid o info new = new ≡ committed_with schema w xid o info

-- It aborts, also in a world that is stopped.
abbrev pub Aborts : World → ℕ → World → Type 0
Aborts w xid new = new ≡ aborted_with w xid

-- ---- the call that stops a world

-- The waiter waits for a cell of the holder, and all is settled, given how many items were sent to each transaction.
abbrev pub IsStuck : Schema → World → List (ℕ × ℕ) → ℕ → ℕ → Type 0
IsStuck schema w sent waiter holder =
    IsSettled schema w sent × (o : Opened) × (get w.opened waiter ≡ Some o) × WaitsFor schema w waiter o holder

-- It answers a holder for which that is so, and stops the world; else it answers that not all is settled.
abbrev pub StopsHeld : Schema → World → List (ℕ × ℕ) → ℕ → Option ℕ → World → Type 0
StopsHeld schema w sent waiter (Some holder) new =
    IsStuck schema w sent waiter holder × (new ≡ record w { stopped = Some (ByHold waiter holder) })
StopsHeld schema w sent waiter None new = ((holder : ℕ) → ¬ (IsStuck schema w sent waiter holder)) × (new ≡ w)

-- ---- the calls that alter nothing; those that read rows may be refused for memory

-- what stopped the world, if anything did
abbrev pub TellsStop : World → Option Stop → Type 0
TellsStop w answer = answer ≡ w.stopped

-- the row at a place with the work of all open transactions
abbrev pub ReadsLive : {E : Type 0} → Schema → World → Place → Result (Option Row) E → Type 0
ReadsLive schema w place answer =
    (listing : List (ℕ × Opened)) → IsListing w listing
    → IfOk answer (λ row. row ≡ get (live_rows schema w listing) place)

-- the committed row
abbrev pub ReadsCommitted : {E : Type 0} → World → Place → Result (Option Row) E → Type 0
ReadsCommitted w place answer = IfOk answer (λ row. row ≡ get w.committed place)

-- the rows of a table after the first commits, in key order
abbrev pub ReadsAfter : {E : Type 0} → Schema → World → ℕ → ℕ → Result (List Row) E → Type 0
ReadsAfter schema w table count answer =
    IfOk answer (λ rows. rows ≡ rows_of_table (serial schema w.start (changes_in (take count w.line))) table)

-- the commits so far
abbrev pub TellsJournal : World → List Entry → Type 0
TellsJournal w answer = answer ≡ journal w

-- the committed rows and the journal, once none is open
abbrev pub Closes : World → Rows → List Entry → Type 0
Closes w rows entries = (w.opened ≡ finite.empty) × (rows ≡ w.committed) × (entries ≡ journal w)

-- what was seen is a beginning of the journal
abbrev pub Watches : World → List Entry → Type 0
Watches w seen = (rest : List Entry) × (seen ++ rest ≡ journal w)

-- what had been seen is a beginning of what is seen now, all of the journal
abbrev pub Looks : World → List Entry → List Entry → Type 0
Looks w seen now = Watches w seen × (now ≡ journal w)

-- ---- any of them

-- One call, whichever it is, leads from the one world to the other.
pub data Step (schema : Schema) (w : World) : World → Type 0 where
  opens : (xid : ℕ) (answer : Result (Unit {0}) Fault) (new : World) → Opens w xid answer new → Step schema w new
  acts : (xid : ℕ) (o : Opened) (sub : ℕ) (c : change_type.Change) (answer : Result Acted Fault) (new : World)
      → get w.opened xid ≡ Some o
      → Acts schema w xid o sub c answer new → Step schema w new
  touches : (xid : ℕ) (o : Opened) (sub : ℕ) (answer : Result (Unit {0}) Fault) (new : World)
      → get w.opened xid ≡ Some o
      → Touches w xid o sub answer new → Step schema w new
  goes_back : (xid : ℕ) (o : Opened) (sub : ℕ) (new : World) → get w.opened xid ≡ Some o → GoesBack w xid o sub new
      → Step schema w new
  commits : (xid : ℕ) (o : Opened) (info : CommitInfo) (new : World) → get w.opened xid ≡ Some o
      → Commits schema w xid o info new
      → Step schema w new
  aborts : (xid : ℕ) (o : Opened) (new : World) → get w.opened xid ≡ Some o → Aborts w xid new → Step schema w new
  stops_held : (sent : List (ℕ × ℕ)) (waiter : ℕ) (answer : Option ℕ) (new : World)
      → StopsHeld schema w sent waiter answer new
      → Step schema w new
  tells_stop : (answer : Option Stop) → TellsStop w answer → Step schema w w
  reads_live : (place : Place) (answer : Result (Option Row) Fault) → ReadsLive schema w place answer → Step schema w w
  reads_committed : (place : Place) (answer : Result (Option Row) Fault) → ReadsCommitted w place answer
      → Step schema w w
  reads_after : (table count : ℕ) (answer : Result (List Row) Fault) → ReadsAfter schema w table count answer
      → Step schema w w
  tells_journal : (answer : List Entry) → TellsJournal w answer → Step schema w w
  closes : (rows : Rows) (entries : List Entry) → Closes w rows entries → Step schema w w
  watches : (seen : List Entry) → Watches w seen → Step schema w w
  looks : (seen now : List Entry) → Looks w seen now → Step schema w w

-- calls one after another lead from the one world to the other
pub data Reaches (schema : Schema) (from : World) : World → Type 0 where
  at_start : Reaches schema from from
  by_step : (w new : World) → Reaches schema from w → Step schema w new → Reaches schema from new
