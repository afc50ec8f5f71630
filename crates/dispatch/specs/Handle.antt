-- What a leader keeps of a worker to a worker.
--     own_item, own_items      the items of a transaction, among what was given
--     after_events, given_before      what was given to the transaction before the last
--     Given, HandleModel      a transaction that goes by a worker; what a worker knows
--     going, handle_model      that of its parts
--     new_handle      one to which nothing was given
--     done_by      what an open transaction has done, by its ticket
--     IsDoing      what an open transaction has done is a beginning of its work
--     IsBack, IsHandle      what its type keeps
--     IsIdle, IsHome      no transaction goes by it; none is with its worker
--     HasCount, IsCounted, AreCounted      how many items were given to a transaction; a count of them; counts of those that go by workers
--     AddsTo      one item more was given to its transaction
--     ComesBack      its worker gave its transaction back
--     IsTakenOut, HasAll      its ticket was taken; the transaction had done all items
use Rattle.std.specs.Prelude.{◌≡◌, ℕ, ◌-◌, ◌^◌, ◌<◌, min, List, [], ◌∷◌, ◌++◌, length, All, Contains, Option, Some, None, MatchOption, fold, flat_map, option_map}
use Rattle.atomic_table.specs.Seated.{TableId}
use Rattle.model.specs.declared.item.Item.{Item}
use Rattle.model.specs.declared.item.Item.TheVariants.{Change, Touch, BackTo, Last}
use Rattle.tokens.specs.Half.{Name, Half}
use Rattle.ring.specs.Ends.{Taking}
use Rattle.world.specs.World.{Opened}
use Rattle.engine.specs.Events.{opened_by}
use Rattle.parted_store.specs.Lent.{OpenTicket}
use Rattle.worker.specs.declared.outbox.Collected.{Collected}
use Rattle.worker.specs.declared.outbox.Collected.TheVariants.{All as WasAll, Left}
use Rattle.worker.specs.declared.outbox.OutboxEvent.{OutboxEvent}
use Rattle.worker.specs.declared.outbox.OutboxEvent.TheVariants.{Begun, Given as WasGiven}
use Rattle.worker.specs.Outbox.{given_since}

-- ---- what was given

-- the item, if it is one of a transaction: that the commit was read is none
abbrev pub own_item : Item → List Item
own_item (Change sub c) = Change sub c ∷ []
own_item (Touch sub) = Touch sub ∷ []
own_item (BackTo sub) = BackTo sub ∷ []
own_item Last = []

-- the items of a transaction, among what was given
abbrev pub own_items : List Item → List Item
own_items given = flat_map own_item given

-- what was given to the transaction before, and to the last one, once one more event has come
abbrev pub after_events : List Item × List Item → OutboxEvent → List Item × List Item
after_events given Begun = (given.1, [])
after_events given (WasGiven item) = (given.0, given.1 ++ item ∷ [])

-- what was given to the transaction before the last one that began
abbrev pub given_before : List OutboxEvent → List Item
given_before events = (fold after_events ([], []) events).0

-- ---- a worker

-- a transaction that goes by a worker, and the items that were given to it since it began
pub record Given : Type 0 where
  pub xid : ℕ
  pub items : List Item

-- what a worker knows
pub record HandleModel : Type 0 where
  pub number : ℕ
  -- the transaction that goes by it
  pub goes : Option Given
  -- what that has done, once its worker gave it back
  pub back : Option Opened
  -- whether that was all of its items, as the last one said that came back
  pub collected : Collected

-- The transaction that goes by a worker: a worker has it where the end of the ring isn't here, and it came back where its
-- ticket is.
abbrev pub going : ℕ → List OutboxEvent → Option (Taking Item) → Option OpenTicket → Option Given
going its_xid events None ticket = Some (record { xid = its_xid; items = own_items (given_since events) })
going its_xid events (Some taker) None = None
going its_xid events (Some taker) (Some ticket) = Some (record { xid = its_xid; items = own_items (given_before events) })

-- what an open transaction has done, by its ticket
abbrev pub done_by : OpenTicket → Opened
done_by ticket = opened_by ticket.events

-- what a worker knows, by its parts
abbrev pub handle_model : ℕ → ℕ → List OutboxEvent → Option (Taking Item) → Option OpenTicket → Collected → HandleModel
handle_model its_number its_xid events taker ticket its_collected =
    record { number = its_number; goes = going its_xid events taker ticket; back = option_map done_by ticket; collected = its_collected }

-- a worker of this number, to which nothing was given
abbrev pub new_handle : ℕ → HandleModel
new_handle its_number = record { number = its_number; goes = None; back = None; collected = Left }

-- ---- what is kept

-- What an open transaction has done is a beginning of its work; a change that waits or clashed is the next of it.
pub record IsDoing (done : Opened) (work : List Item) : Type 0 where
  pub left : List Item
  pub begins : done.items ++ left ≡ work
  pub wants : MatchOption done.wants (Unit {0}) (λ w. (more : List Item) × (left ≡ Change w.0 w.1 ∷ more))

-- It is the ticket of this transaction, which does what was given to it, and has done all of it where that was said.
pub record IsBack (its_xid : ℕ) (given : List Item) (collected : Collected) (ticket : OpenTicket) : Type 0 where
  pub number : ticket.number ≡ its_xid
  pub doing : IsDoing (done_by ticket) given
  pub all : collected ≡ WasAll → (done_by ticket).items ≡ given

-- Its token has this name. Where the end of the ring is here it is that of this ring, nothing of it was acknowledged,
-- and nothing was given since; a ticket is here with it alone, and is that of its transaction.
pub record IsHandle (its_ring : TableId) (its_name : Name) (its_xid : ℕ) (token : Half OutboxEvent) (taker : Option (Taking Item)) (ticket : Option OpenTicket) (collected : Collected)
    : Type 0 where
  pub name : token.name ≡ its_name
  pub end : MatchOption taker (ticket ≡ None) (λ t. (t.ring ≡ its_ring) × (t.acked ≡ []) × (given_since token.list ≡ []))
  pub back : MatchOption ticket (Unit {0}) (IsBack its_xid (own_items (given_before token.list)) collected)

-- No transaction goes by it.
abbrev pub IsIdle : HandleModel → Type 0
IsIdle l = (l.goes ≡ None) × (l.back ≡ None)

-- A transaction that goes by it has come back.
abbrev pub IsHome : HandleModel → Type 0
IsHome l = MatchOption l.goes (Unit {0}) (λ given. (done : Opened) × (l.back ≡ Some done))

-- The number is that of all items that were given to this transaction, which goes by the worker. Where none does, or there
-- were too many, it is the last number of a u64, which is no count.
abbrev pub HasCount : Option Given → ℕ × ℕ → Type 0
HasCount goes named =
    MatchOption goes (named.1 ≡ 2 ^ 64 - 1) (λ given. (given.xid ≡ named.0) × (named.1 ≡ min (length given.items) (2 ^ 64 - 1)))

-- The number, if it is a count, is of all items that were given to this transaction, which goes by the worker. The last
-- number of a u64 is no count.
abbrev pub IsCounted : Option Given → ℕ × ℕ → Type 0
IsCounted goes named =
    named.1 < 2 ^ 64 - 1 → (given : Given) × (goes ≡ Some given) × (given.xid ≡ named.0) × (named.1 ≡ length given.items)

-- Each of them is so of a transaction that goes by one of the workers.
abbrev pub AreCounted : List (Option Given) → List (ℕ × ℕ) → Type 0
AreCounted workers named = All (λ one. (goes : Option Given) × Contains workers goes × IsCounted goes one) named

-- ---- what a call does to it

-- The item was given to its transaction, which its worker has.
pub record AddsTo (old : HandleModel) (item : Item) (new : HandleModel) : Type 0 where
  pub given : Given
  pub was : old.goes ≡ Some given
  pub away : old.back ≡ None
  pub is : new ≡ record old { goes = Some (record given { items = given.items ++ own_item item }) }

-- Its worker gave its transaction back, which has done a beginning of what was given to it: all of it, or not.
pub record ComesBack (old : HandleModel) (its_collected : Collected) (new : HandleModel) : Type 0 where
  pub given : Given
  pub was : old.goes ≡ Some given
  pub done : Opened
  pub is : new ≡ record old { back = Some done; collected = its_collected }
  pub doing : IsDoing done given.items

-- Its transaction, which had come back, was taken out of it: this is the ticket.
pub record IsTakenOut (old : HandleModel) (ticket : OpenTicket) (new : HandleModel) : Type 0 where
  pub given : Given
  pub was : old.goes ≡ Some given
  pub back : old.back ≡ Some (done_by ticket)
  pub number : ticket.number ≡ given.xid
  pub doing : IsDoing (done_by ticket) given.items
  pub is : new ≡ record old { goes = None; back = None }

-- It had done all that was given to it.
abbrev pub HasAll : HandleModel → OpenTicket → Type 0
HasAll l ticket = MatchOption l.goes ⊥ (λ given. (done_by ticket).items ≡ given.items)
