-- A leader with its workers, at one moment, and each thing that one of them does.
--     Moment, start_moment      what the leader keeps, and the world
--     IsUnmoved      outboxes and world stay as they are
--     Follows      what the leader does once it was told of a message
--     Turn, Turns      one thing that it or a worker does; such things one after another
--     IsInStep      all transactions are in step with the world
use Rattle.std.specs.Prelude.{◌≡◌, ℕ, Bool, List, [], ◌∷◌, ◌++◌, Option, Some, None, Ok}
use Rattle.std.specs.FinMap.{get}
use Rattle.model.specs.declared.change.Change as change_type
use Rattle.model.specs.declared.item.Item.{Item}
use Rattle.model.specs.declared.item.Item.TheVariants.{Change}
use Rattle.model.specs.Rows.{Rows}
use Rattle.messages.specs.declared.message.Message.{Message}
use Rattle.frames.specs.declared.item.CopyItem.{CopyItem}
use Rattle.frames.specs.declared.item.CopyItem.TheVariants.{Wal, Keepalive, Done}
use Rattle.session.specs.Lawful.{Admits}
use Rattle.session.specs.State.{Direct, Worker, Spooled, Open, State, Setting, start}
use Rattle.session.specs.StreamEvents.{StreamEvent, NoEvent, TransactionOpens, ItemComes}
use Rattle.session.specs.StreamEvents.{TransactionCommits, TransactionAborts, Tells}
use Rattle.run.specs.Cause.{schema_of}
use Rattle.world.specs.Steps.{Opens as OpensIn, Step}
use Rattle.world.specs.Steps.{done_with, wanting, committed_with, aborted_with}
use Rattle.world.specs.World.{Opened, Stop, World, starting}
use Rattle.run_laws.specs.Leading.{Outbox, AreInStep, IsWith}
use Rattle.run_laws.specs.Threads.{work_of, IsWork}

-- what a leader keeps at one moment, the items that it is still to handle, and the world
pub record Moment : Type 0 where
  pub state : State
  pub rest : List CopyItem
  pub outboxes : ℕ → Option Outbox
  pub world : World

-- before the first of these items, over these rows
abbrev pub start_moment : Rows → List CopyItem → Moment
start_moment rows items =
    record { state = start; rest = items; outboxes = λ xid. None; world = starting rows }

-- All transactions are in step with the world.
abbrev pub IsInStep : Setting → Rows → Moment → Type 0
IsInStep g rows a = AreInStep g rows a.state a.rest a.outboxes a.world

-- ---- outboxes

-- an outbox with nothing in it
abbrev pub empty_outbox : Outbox
empty_outbox = record { sent = []; queued = [] }

-- the outbox with one item more, which is queued
abbrev pub with_queued : Outbox → Item → Outbox
with_queued outbox item = record outbox { queued = outbox.queued ++ item ∷ [] }

-- ---- what the leader does

-- Outboxes and world are as they were.
pub record IsUnmoved (a b : Moment) : Type 0 where
  pub outboxes : b.outboxes ≡ a.outboxes
  pub world : b.world ≡ a.world

-- The leader opens a transaction, also in the world.
pub record OpensBoth (a b : Moment) (xid : ℕ) : Type 0 where
  pub call : OpensIn a.world xid (Ok tt) b.world
  pub outbox : IsWith a.outboxes b.outboxes xid (Some empty_outbox)

-- It has an item more to send to the transaction.
pub record GivesQueued (a b : Moment) (xid : ℕ) (item : Item) : Type 0 where
  pub outbox : Outbox
  pub was : a.outboxes xid ≡ Some outbox
  pub now : IsWith a.outboxes b.outboxes xid (Some (with_queued outbox item))
  pub world : b.world ≡ a.world

-- It drops the transaction, also in the world.
pub record DropsBoth (a b : Moment) (xid : ℕ) : Type 0 where
  pub done : Opened
  pub present : get a.world.opened xid ≡ Some done
  pub outbox : IsWith a.outboxes b.outboxes xid None
  pub world : b.world ≡ aborted_with a.world xid

-- What it does once it was told this of a message: with what is spooled nothing, but for its
-- commit, before which it was opened; and it commits what has done all of its work.
abbrev pub Follows : Setting → Moment → Moment → StreamEvent → Type 0
Follows g a b NoEvent = IsUnmoved a b
Follows g a b (TransactionOpens xid Direct) = OpensBoth a b xid
Follows g a b (TransactionOpens xid Worker) = OpensBoth a b xid
Follows g a b (TransactionOpens xid Spooled) = IsUnmoved a b
Follows g a b (ItemComes xid Direct item size) = GivesQueued a b xid item
Follows g a b (ItemComes xid Worker item size) = GivesQueued a b xid item
Follows g a b (ItemComes xid Spooled item size) = IsUnmoved a b
Follows g a b (TransactionCommits c) =
    (done : Opened) × (get a.world.opened c.xid ≡ Some done)
    × (done.items ≡ work_of c.xid c.way c.items) × IsWith a.outboxes b.outboxes c.xid None
    × (b.world ≡ committed_with (schema_of g) a.world c.xid done c.info)
Follows g a b (TransactionAborts xid Direct) = DropsBoth a b xid
Follows g a b (TransactionAborts xid Worker) = DropsBoth a b xid
Follows g a b (TransactionAborts xid Spooled) = IsUnmoved a b

-- ---- what a transaction does

-- An open transaction of the state, with its outbox, and what it has done.
pub record IsOpenAt (a : Moment) (xid : ℕ) (o : Open) (outbox : Outbox) (done : Opened)
    : Type 0 where
  pub present : get a.state.transactions xid ≡ Some o
  pub served : a.outboxes xid ≡ Some outbox
  pub opened : get a.world.opened xid ≡ Some done

-- One thing that the leader or a worker does. The leader handles a message, or an item without one;
-- it sends the first item that is queued; it opens a spooled transaction that the next message
-- commits. A transaction does the next item that was sent; or that is a change, and waits, or
-- clashes and stops the world. A call stops the world where all wait, or alters nothing.
pub data Turn (g : Setting) (a : Moment) : Moment → Type 0 where
  handles : (b : Moment) (first last : ℕ) (payload : List ℕ) (m : Message) (told : StreamEvent)
      → a.rest ≡ Wal first last payload ∷ b.rest → Admits g a.state payload m b.state
      → Tells a.state b.state told → Follows g a b told → Turn g a b
  hears : (last : ℕ) (reply : Bool) (rest : List CopyItem) → a.rest ≡ Keepalive last reply ∷ rest
      → Turn g a (record a { rest = rest })
  passes : (rest : List CopyItem) → a.rest ≡ Done ∷ rest → Turn g a (record a { rest = rest })
  sends : (xid : ℕ) (o : Open) (outbox : Outbox) (done : Opened) (i : Item) (queued : List Item)
      (after : ℕ → Option Outbox)
      → IsOpenAt a xid o outbox done → outbox.queued ≡ i ∷ queued
      → IsWith a.outboxes after xid
      (Some (record { sent = outbox.sent ++ i ∷ []; queued = queued }))
      → Turn g a (record a { outboxes = after })
  does : (xid : ℕ) (o : Open) (outbox : Outbox) (done : Opened) (i : Item) (left : List Item)
      → IsOpenAt a xid o outbox done → done.items ++ i ∷ left ≡ outbox.sent
      → Step (schema_of g) a.world (done_with a.world xid done i)
      → Turn g a (record a { world = done_with a.world xid done i })
  wants : (xid : ℕ) (o : Open) (outbox : Outbox) (done : Opened) (sub : ℕ) (c : change_type.Change)
      (left : List Item) (stopped : Option Stop)
      → IsOpenAt a xid o outbox done → done.items ++ Change sub c ∷ left ≡ outbox.sent
      → Step (schema_of g) a.world (record (wanting a.world xid done sub c) { stopped = stopped })
      → Turn g a
      (record a { world = record (wanting a.world xid done sub c) { stopped = stopped } })
  unspools : (xid : ℕ) (o : Open) (work : List Item) (after : ℕ → Option Outbox) (new : World)
      → get a.state.transactions xid ≡ Some o → o.way ≡ Spooled
      → IsWork g a.state a.rest xid o.way o.items work → OpensIn a.world xid (Ok tt) new
      → IsWith a.outboxes after xid (Some (record { sent = []; queued = work }))
      → Turn g a (record a { outboxes = after; world = new })
  stops : (stopped : Option Stop)
      → Step (schema_of g) a.world (record a.world { stopped = stopped })
      → Turn g a (record a { world = record a.world { stopped = stopped } })

-- such things one after another
pub data Turns (g : Setting) (from : Moment) : Moment → Type 0 where
  at_first : Turns g from from
  by_turn : (a b : Moment) → Turns g from a → Turn g a b → Turns g from b
