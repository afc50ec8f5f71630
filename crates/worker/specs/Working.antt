-- What a job knows of its transaction and of its ring, and what work makes of it.
--     Working, working      what it knows, and that of its parts
--     done_in, wanted_in      the items that the transaction has done; the change that waits or clashed
--     IsTaken      a change that waits or clashed is the item taken
--     IsInStep      what the type of a job keeps
--     GoesOn      the same transaction of the same worker, with more done
--     HasNext, HasDone      an item of the transaction is taken, and not done; it is done
--     EndsWith      the last event of a transaction
--     WasRefused      why an item was refused
--     Shows, IsEndedBy      why a worker came back, as its job shows it, and as the store answered it
--     Wanted, Comes      the events of a transaction once an item was tried
--     ComesTo      what the transaction has done once it was tried until it was done or refused
use Rattle.std.specs.Prelude.{◌≡◌, ◌≢◌, ℕ, true, List, [], ◌∷◌, ◌++◌, Option, Some, None, IsSome, All, MatchOption, Result, Ok, Err}
use Rattle.atomic_table.specs.Seated.{TableId}
use Rattle.model.specs.declared.change.Change as change_type
use Rattle.model.specs.Rows.{Rows, Schema}
use Rattle.model.specs.declared.item.Item.{Item}
use Rattle.model.specs.declared.item.Item.TheVariants.{Change, Last}
use Rattle.model.specs.Beginning.{Begins}
use Rattle.ring.specs.Ends.{Taking}
use Rattle.change.specs.declared.outcome.Clash as clash_type
use Rattle.world.specs.World.{Opened}
use Rattle.engine.specs.declared.events.Event.{Event}
use Rattle.engine.specs.declared.events.Event.TheVariants.{Done, Wants, FoundStopped, FoundNoMemory}
use Rattle.engine.specs.Events.{opened_by}
use Rattle.live_tables.specs.declared.answers.EngineFault.{EngineFault}
use Rattle.live_tables.specs.declared.answers.EngineFault.TheVariants.{AlreadyOpen, TooManyOpen, Clash as ClashFault, Stopped as StoppedFault, OutOfMemory as NoMemory}
use Rattle.parted_store.specs.Lent.{OpenTicket}
use Rattle.table_locks.specs.Clashing.{WasClash}
use Rattle.worker.specs.declared.ended.Ended.{Ended}
use Rattle.worker.specs.declared.ended.Ended.TheVariants.{Last as AtLast, Doomed, Clashed, Stopped, OutOfMemory}
use Rattle.worker.specs.declared.ended.Tried.{Tried}
use Rattle.worker.specs.declared.ended.Tried.TheVariants.{Done as WasDone, Held as WasHeld}

-- what a job knows
pub record Working : Type 0 where
  -- the number of its worker
  pub worker : ℕ
  -- the number of its transaction
  pub xid : ℕ
  -- what happened to the transaction
  pub events : List Event
  -- its end of the worker's ring
  pub taker : Taking Item

-- what it knows, by worker, ticket and ring
abbrev pub working : ℕ → OpenTicket → Taking Item → Working
working its_worker ticket its_taker = record { worker = its_worker; xid = ticket.number; events = ticket.events; taker = its_taker }

-- the items that its transaction has done
abbrev pub done_in : Working → List Item
done_in j = (opened_by j.events).items

-- the change of it that waits or clashed, and the subtransaction that made it
abbrev pub wanted_in : Working → Option (ℕ × change_type.Change)
wanted_in j = (opened_by j.events).wants

-- a change that waits or clashed is the item taken
abbrev pub IsTaken : Option (ℕ × change_type.Change) → Option Item → Type 0
IsTaken wants taken = MatchOption wants (Unit {0}) (λ w. taken ≡ Some (Change w.0 w.1))

-- Its end is that of this ring; what its transaction has done are the items acknowledged, of which none says that the
-- commit was read, and a change of it that waits or clashed is the first item after them.
pub record IsInStep (its_ring : TableId) (j : Working) : Type 0 where
  pub ring : j.taker.ring ≡ its_ring
  pub done : done_in j ≡ j.taker.acked
  pub own : All (λ item. item ≢ Last) (done_in j)
  pub next : IsTaken (wanted_in j) j.taker.taken

-- It has the same transaction and the same worker, and all that was done before.
pub record GoesOn (old new : Working) : Type 0 where
  pub worker : new.worker ≡ old.worker
  pub xid : new.xid ≡ old.xid
  pub ring : new.taker.ring ≡ old.taker.ring
  pub events : Begins old.events new.events
  pub done : Begins (done_in old) (done_in new)
  pub doomed : old.taker.doomed ≡ true → new.taker.doomed ≡ true

-- an item of the transaction is taken, and not done
abbrev pub HasNext : Working → Type 0
HasNext j = (item : Item) × (j.taker.taken ≡ Some item) × (item ≢ Last)

-- the item that was taken is done
abbrev pub HasDone : Working → Working → Type 0
HasDone old new = (item : Item) × (old.taker.taken ≡ Some item) × (done_in new ≡ done_in old ++ item ∷ [])

-- the last event of a transaction
abbrev pub EndsWith : Event → List Event → Type 0
EndsWith e events = (before : List Event) × (events ≡ before ++ e ∷ [])

-- Why an item of a transaction was refused. A change of it clashed, which it tells as wanted: parts of calls lead to a part of
-- the change's table in which it clashes so. Or the last event of the transaction is that the store was found stopped, or that
-- memory was refused, which calls of the store alone list.
abbrev pub WasRefused : Schema → Rows → Ended → ℕ → List Event → Type 0
WasRefused keys first AtLast xid events = Unit {0}
WasRefused keys first Doomed xid events = Unit {0}
WasRefused keys first Clashed xid events =
    (sub : ℕ) × (c : change_type.Change) × (clash : clash_type.Clash) × ((opened_by events).wants ≡ Some (sub, c)) × WasClash keys first xid c clash
WasRefused keys first Stopped xid events = EndsWith FoundStopped events
WasRefused keys first OutOfMemory xid events = EndsWith FoundNoMemory events

-- why a worker came back, as its job then shows it
abbrev pub Shows : Ended → Working → Type 0
Shows AtLast j = j.taker.taken ≡ Some Last
Shows Doomed j = j.taker.doomed ≡ true
Shows Clashed j = HasNext j
Shows Stopped j = HasNext j
Shows OutOfMemory j = HasNext j

-- why a worker came back: the job shows it, and the store answered so
abbrev pub IsEndedBy : Schema → Rows → Ended → Working → Type 0
IsEndedBy keys first ended j = Shows ended j × WasRefused keys first ended j.xid j.events

-- why a worker comes back whose item was refused
abbrev pub ended_by : EngineFault → Ended
ended_by (ClashFault clash) = Clashed
ended_by StoppedFault = Stopped
ended_by NoMemory = OutOfMemory
ended_by AlreadyOpen = OutOfMemory
ended_by TooManyOpen = OutOfMemory

-- the item is a change, and what became of it is told as one that waits or clashed
abbrev pub Wanted : Item → List Event → List Event → Type 0
Wanted item old new = (sub : ℕ) × (c : change_type.Change) × (item ≡ Change sub c) × (new ≡ old ++ Wants sub c ∷ [])

-- the events of a transaction before and after an item was tried
abbrev pub Comes : Result Tried Ended → Item → List Event → List Event → Type 0
Comes (Ok WasDone) item old new = new ≡ old ++ Done item ∷ []
Comes (Ok WasHeld) item old new = Wanted item old new
Comes (Err AtLast) item old new = ⊥
Comes (Err Doomed) item old new = ⊥
Comes (Err Clashed) item old new = Wanted item old new
Comes (Err Stopped) item old new = new ≡ old ++ FoundStopped ∷ []
Comes (Err OutOfMemory) item old new = new ≡ old ++ FoundNoMemory ∷ []

-- what a transaction has done before and after an item was tried until it was done or refused
abbrev pub ComesTo : Result (Unit {0}) Ended → Taking Item → Opened → Opened → Type 0
ComesTo (Ok u) t old new =
    (new.wants ≡ None) × MatchOption t.taken ⊥ (λ item. new.items ≡ old.items ++ item ∷ [])
ComesTo (Err AtLast) t old new = ⊥
ComesTo (Err Doomed) t old new = (t.doomed ≡ true) × (new.items ≡ old.items) × IsTaken new.wants t.taken
ComesTo (Err Clashed) t old new = IsSome new.wants × (new.items ≡ old.items) × IsTaken new.wants t.taken
ComesTo (Err Stopped) t old new = (new.items ≡ old.items) × IsTaken new.wants t.taken
ComesTo (Err OutOfMemory) t old new = (new.items ≡ old.items) × IsTaken new.wants t.taken
