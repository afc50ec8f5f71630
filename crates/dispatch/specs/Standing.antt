-- What a leader's open transactions show, and what each call makes of it.
--     Own, nothing      a transaction that the leader applies itself; what one has done that was just opened
--     Standing, own_by, goes_by, standing      what they show of the store, of the workers and of the leader's own; that of their parts
--     in_worker, holds_in, KeepsGiven      the transaction whose ticket a worker has; what its type keeps of that
--     items_of, items_by, own_of      what is there of a transaction: by a worker, by all workers, with the leader
--     GoesBy, IsOwn, IsOurs      a transaction goes by the worker of this place; the leader applies it itself; either
--     Replaces      one of a list is another now
--     IsStoreEnd, IsStopEnd      an end that the store gives a run, by whose turn it is, and whoever's
--     stop_end, fault_end      the end that what stopped a store makes, and a call that it refused
--     IsBegun, IsHandedOut      a transaction was opened, for the leader or for a worker
--     IsGiven      items were given to a worker
--     with_done, with_wanted, IsUndone, Tries      what a transaction has done, before and after an item
--     OwnDoes, IsApplied, IsTaken, IsMet      the leader's own has done an item; one was taken; it wasn't
--     CommitsGiven, CommitsOwn, CommitsSpooled, IsCommitted      a transaction was committed, with just these items
--     HasDoneAll, HasTried      a spooled one was opened, and has done all of its items, or a beginning of them
--     IsAborted      a transaction of a worker was dropped
use Rattle.std.specs.Prelude.{◌≡◌, ◌≢◌, ◌<◌, ℕ, length, slice_index_or, List, [], ◌∷◌, ◌++◌, Option, Some, None, MatchOption, map, flat_map, option_map, Bool, true, false, Result, Ok, Err, ◌⊎◌, if◌then◌else◌}
use Rattle.model.specs.declared.change.Change as change_type
use Rattle.model.specs.declared.item.Item.{Item}
use Rattle.model.specs.declared.item.Item.TheVariants.{Change}
use Rattle.model.specs.declared.item.CommitInfo.{CommitInfo}
use Rattle.world.specs.World.{Opened, is_xid}
use Rattle.engine.specs.declared.events.LineEvent.{LineEvent}
use Rattle.engine.specs.declared.events.LineEvent.TheVariants.{Opened as WasOpened, Committed as WasCommitted, Aborted as WasAborted}
use Rattle.parted_store.specs.Lent.{OpenTicket}
use Rattle.live_tables.specs.declared.answers.EngineFault.{EngineFault}
use Rattle.live_tables.specs.declared.answers.EngineFault.TheVariants.{Clash as Clashed, Stopped as StoreStopped}
use Rattle.live_tables.specs.declared.answers.Stop.{Stop}
use Rattle.live_tables.specs.declared.answers.Stop.TheVariants.{Clash as ByClash, Held as ByHold}
use Rattle.run.specs.declared.end.End.{End}
use Rattle.run.specs.declared.end.End.TheVariants as ends
use Rattle.run.specs.Ends.{end_of_clash}
use Rattle.dispatch.specs.Handle.{Given, HandleModel, done_by, IsDoing}

-- ---- what is shown

-- a transaction that the leader applies itself, and what it has done
pub record Own : Type 0 where
  pub xid : ℕ
  pub done : Opened

-- what a transaction has done that was just opened
abbrev pub nothing : Opened
nothing = record { items = []; wants = None }

-- what a leader's open transactions show: how many tables their store has and what its line tells, what goes by each
-- worker, and the one that the leader applies itself
pub record Standing : Type 0 where
  pub tables : ℕ
  pub line : List LineEvent
  pub workers : List (Option Given)
  pub begun : Option Own

-- one that the leader applies itself, by its ticket
abbrev pub own_by : OpenTicket → Own
own_by ticket = record { xid = ticket.number; done = done_by ticket }

-- what goes by a worker
abbrev pub goes_by : HandleModel → Option Given
goes_by l = l.goes

-- what they show, by their parts
abbrev pub standing : ℕ → List LineEvent → List HandleModel → Option OpenTicket → Standing
standing count events its_workers ticket =
    record { tables = count; line = events; workers = map goes_by its_workers; begun = option_map own_by ticket }

-- the transaction whose ticket a worker has, by what goes by it and what that has done
abbrev pub in_worker : Option Given → Option Opened → Option Own
in_worker (Some given) (Some done) = Some (record { xid = given.xid; done = done })
in_worker (Some given) None = None
in_worker None back = None

-- that of a worker
abbrev pub holds_in : HandleModel → Option Own
holds_in l = in_worker l.goes l.back

-- What a transaction that came back has done is a beginning of what was given to it.
abbrev pub KeepsGiven : HandleModel → Type 0
KeepsGiven l =
    MatchOption l.goes (Unit {0}) (λ given. MatchOption l.back (Unit {0}) (λ done. IsDoing done given.items))

-- ---- what is there of a transaction

-- the items that were given to a transaction, where it goes by this worker
abbrev pub items_of : ℕ → Option Given → List (List Item)
items_of xid None = []
items_of xid (Some given) = if is_xid xid given.xid then given.items ∷ [] else []

-- those of each worker by which it goes
abbrev pub items_by : ℕ → List (Option Given) → List (List Item)
items_by xid workers = flat_map (items_of xid) workers

-- what it has done, where the leader applies it itself
abbrev pub own_of : ℕ → Option Own → Option Opened
own_of xid None = None
own_of xid (Some own) = if is_xid xid own.xid then Some own.done else None

-- The transaction goes by the worker of this place.
pub record GoesBy (workers : List (Option Given)) (place its_xid : ℕ) : Type 0 where
  pub within : place < length workers
  pub had : List Item
  pub is : slice_index_or workers place None ≡ Some (record { xid = its_xid; items = had })

-- The leader applies it itself.
pub record IsOwn (t : Standing) (its_xid : ℕ) : Type 0 where
  pub done : Opened
  pub is : t.begun ≡ Some (record { xid = its_xid; done = done })

-- Its items come to somebody: it goes by a worker, or the leader applies it itself.
abbrev pub IsOurs : Standing → ℕ → Type 0
IsOurs t xid = (items_by xid t.workers ≢ []) ⊎ IsOwn t xid

-- One of a list was this and is that now; the others stay.
pub record Replaces {X : Type 0} (old new : List X) (was is : X) : Type 0 where
  pub before : List X
  pub behind : List X
  pub old_is : old ≡ before ++ was ∷ behind
  pub new_is : new ≡ before ++ is ∷ behind

-- ---- what a call does

-- The end is one that the store gives a run: a conflict, that memory was refused, or that a key is held, where it is the
-- turn of this transaction.
abbrev pub IsStoreEnd : Option ℕ → End → Type 0
IsStoreEnd turn ends.Clean = ⊥
IsStoreEnd turn (ends.Frame fault) = ⊥
IsStoreEnd turn (ends.Msg fault) = ⊥
IsStoreEnd turn (ends.Session fault) = ⊥
IsStoreEnd turn (ends.Rel fault) = ⊥
IsStoreEnd turn (ends.Unique table key) = Unit {0}
IsStoreEnd turn (ends.NullKey table) = Unit {0}
IsStoreEnd turn (ends.HeldKey xid holder) = turn ≡ Some xid
IsStoreEnd turn ends.OutOfMemory = Unit {0}

-- It is one of these, whoever's turn it is: no key is held.
abbrev pub IsStopEnd : End → Type 0
IsStopEnd end = (turn : Option ℕ) → IsStoreEnd turn end

-- the end of a run whose store was stopped: that of the clash. That nothing goes on ends a run at once where the leader
-- finds so, and elsewhere it is told as memory that was refused
abbrev pub stop_end : Stop → End
stop_end (ByClash xid clash) = end_of_clash clash
stop_end (ByHold waiter holder) = ends.OutOfMemory

-- the end of a run in which a call on the store was refused, by what has stopped that; what can't be is told as memory
-- that was refused
abbrev pub fault_end : EngineFault → Option Stop → End
fault_end (Clashed clash) stop = end_of_clash clash
fault_end StoreStopped (Some stop) = stop_end stop
fault_end fault stop = ends.OutOfMemory

-- The transaction was opened, and the leader, which had none itself, applies it.
pub record IsBegun (old : Standing) (its_xid : ℕ) (new : Standing) : Type 0 where
  pub none : old.begun ≡ None
  pub is : new ≡ record old { line = old.line ++ WasOpened its_xid ∷ []; begun = Some (record { xid = its_xid; done = nothing }) }

-- The transaction was opened, and goes by a worker that was free.
pub record IsHandedOut (old : Standing) (its_xid : ℕ) (new : Standing) : Type 0 where
  pub workers : Replaces old.workers new.workers None (Some (record { xid = its_xid; items = [] }))
  pub is : new ≡ record old { line = old.line ++ WasOpened its_xid ∷ []; workers = new.workers }

-- The items were given to the transaction, which goes by a worker.
pub record IsGiven (old : Standing) (its_xid : ℕ) (items : List Item) (new : Standing) : Type 0 where
  pub had : List Item
  pub workers : Replaces old.workers new.workers (Some (record { xid = its_xid; items = had })) (Some (record { xid = its_xid; items = had ++ items }))
  pub is : new ≡ record old { workers = new.workers }

-- what a transaction has done, with one item more
abbrev pub with_done : Opened → Item → Opened
with_done o item = record { items = o.items ++ item ∷ []; wants = None }

-- the same, with a change that waits or clashed
abbrev pub with_wanted : Opened → ℕ → change_type.Change → Opened
with_wanted o sub change = record o { wants = Some (sub, change) }

-- The item isn't done; where it is a change, it may be noted as one that waits or clashed.
abbrev pub IsUndone : Opened → Item → Opened → Type 0
IsUndone old item new =
    (new ≡ old) ⊎ ((sub : ℕ) × (change : change_type.Change) × (item ≡ Change sub change) × (new ≡ with_wanted old sub change))

-- what came of a change that was tried: it was done, another transaction holds a cell of it, or it was refused
abbrev pub Tries : Result Bool End → ℕ → change_type.Change → Opened → Opened → Type 0
Tries (Ok true) sub change old new = new ≡ with_done old (Change sub change)
Tries (Ok false) sub change old new = new ≡ with_wanted old sub change
Tries (Err end) sub change old new = IsUndone old (Change sub change) new

-- The leader's own transaction has done this and does that now.
pub record OwnDoes (old : Standing) (its_xid : ℕ) (was is : Opened) (new : Standing) : Type 0 where
  pub was_own : old.begun ≡ Some (record { xid = its_xid; done = was })
  pub is_own : new ≡ record old { begun = Some (record { xid = its_xid; done = is }) }

-- The transaction, which is the leader's own, has done the item.
abbrev pub IsApplied : Standing → ℕ → Item → Standing → Type 0
IsApplied old xid item new = (done : Opened) × OwnDoes old xid done (with_done done item) new

-- The item was given to just this transaction, or done by it.
abbrev pub IsTaken : Standing → ℕ → Item → Standing → Type 0
IsTaken old xid item new = IsGiven old xid (item ∷ []) new ⊎ IsApplied old xid item new

-- The run ends by an item. It wasn't given; or it is one of the leader's own, which hasn't done it: where it is a change,
-- it may be noted as one that waits or clashed.
abbrev pub IsMet : Standing → ℕ → Item → Standing → End → Type 0
IsMet old xid item new end =
    ((new ≡ old) × IsStopEnd end)
    ⊎ ((done : Opened) × (after : Opened) × IsUndone done item after × OwnDoes old xid done after new × IsStoreEnd (Some xid) end)

-- A transaction that goes by a worker was committed, with all that was given to it.
pub record CommitsGiven (old : Standing) (its_xid : ℕ) (info : CommitInfo) (new : Standing) : Type 0 where
  pub had : List Item
  pub workers : Replaces old.workers new.workers (Some (record { xid = its_xid; items = had })) None
  pub is : new ≡ record old { line = old.line ++ WasCommitted its_xid had info ∷ []; workers = new.workers }

-- The leader's own was committed, with all that it has done.
pub record CommitsOwn (old : Standing) (its_xid : ℕ) (info : CommitInfo) (new : Standing) : Type 0 where
  pub done : Opened
  pub was : old.begun ≡ Some (record { xid = its_xid; done = done })
  pub is : new ≡ record old { line = old.line ++ WasCommitted its_xid done.items info ∷ []; begun = None }

-- One of which nothing was there was opened, did these items, and was committed.
pub record CommitsSpooled (old : Standing) (its_xid : ℕ) (info : CommitInfo) (items : List Item) (new : Standing) : Type 0 where
  pub none : old.begun ≡ None
  pub nowhere : items_by its_xid old.workers ≡ []
  pub is : new ≡ record old { line = (old.line ++ WasOpened its_xid ∷ []) ++ WasCommitted its_xid items info ∷ [] }

-- The transaction was committed, with all of its items: those given to it, those done, or, where nothing was there of
-- it, these.
abbrev pub IsCommitted : Standing → ℕ → CommitInfo → List Item → Standing → Type 0
IsCommitted old xid info items new = CommitsGiven old xid info new ⊎ (CommitsOwn old xid info new ⊎ CommitsSpooled old xid info items new)

-- One of which nothing was there was opened, and has done just these items.
pub record HasDoneAll (old : Standing) (its_xid : ℕ) (items : List Item) (new : Standing) : Type 0 where
  pub none : old.begun ≡ None
  pub nowhere : items_by its_xid old.workers ≡ []
  pub is : new ≡ record old { line = old.line ++ WasOpened its_xid ∷ []; begun = Some (record { xid = its_xid; done = record { items = items; wants = None } }) }

-- One of which nothing was there was opened, and has done a beginning of these items.
pub record HasTried (old : Standing) (its_xid : ℕ) (items : List Item) (new : Standing) : Type 0 where
  pub none : old.begun ≡ None
  pub nowhere : items_by its_xid old.workers ≡ []
  pub done : Opened
  pub doing : IsDoing done items
  pub is : new ≡ record old { line = old.line ++ WasOpened its_xid ∷ []; begun = Some (record { xid = its_xid; done = done }) }

-- A transaction that goes by a worker was dropped.
pub record IsAborted (old : Standing) (its_xid : ℕ) (new : Standing) : Type 0 where
  pub had : List Item
  pub workers : Replaces old.workers new.workers (Some (record { xid = its_xid; items = had })) None
  pub is : new ≡ record old { line = old.line ++ WasAborted its_xid ∷ []; workers = new.workers }
