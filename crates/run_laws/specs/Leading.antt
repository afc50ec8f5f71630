-- What a leader keeps of its open transactions, beside the session's state and the world.
--     Outbox      the items that it has sent to a transaction, and those that it is still to send
--     IsWith      the outboxes are as they were but for one
--     InStep      an open transaction, its outbox, and what it has done in the world
--     IsAgreed, AreInStep      so it is with one transaction; with all, and with the commits
--     AreCounts      how many items each transaction has to do
use Rattle.std.specs.Prelude.{◌≡◌, ◌≢◌, ℕ, ◌-◌, ◌^◌, ◌<◌, List, ◌∷◌, ◌++◌, length, map}
use Rattle.std.specs.Prelude.{Contains, Option, Some, None}
use Rattle.std.specs.FinMap.{get}
use Rattle.model.specs.declared.change.Change as change_type
use Rattle.model.specs.declared.item.Item.{Item}
use Rattle.model.specs.declared.item.Item.TheVariants.{Change}
use Rattle.model.specs.Rows.{Rows}
use Rattle.frames.specs.declared.item.CopyItem.{CopyItem}
use Rattle.session.specs.State.{Spooled, Open, State, Setting}
use Rattle.run.specs.Cause.{schema_of}
use Rattle.world.specs.World.{Opened, World}
use Rattle.world_parts.specs.Led.{IsLed}
use Rattle.run_laws.specs.Threads.{IsWork, done_by_commit, Does}

-- the items that were sent to a transaction, and those that are still to be sent, as there was no
-- room for them
pub record Outbox : Type 0 where
  pub sent : List Item
  pub queued : List Item

-- The outboxes are as they were, but for that of one transaction, which is this now.
pub record IsWith (outboxes after : ℕ → Option Outbox) (xid : ℕ) (now : Option Outbox)
    : Type 0 where
  pub here : after xid ≡ now
  pub elsewhere : (x : ℕ) → x ≢ xid → after x ≡ outboxes x

-- What was sent and what is queued are its work. What it has done is a beginning of what was sent;
-- a change that waits or clashed is the next.
pub record InStep (g : Setting) (s : State) (rest : List CopyItem) (xid : ℕ) (o : Open)
    (outbox : Outbox) (done : Opened) : Type 0 where
  pub all_work : IsWork g s rest xid o.way o.items (outbox.sent ++ outbox.queued)
  pub does : Does done outbox.sent
  pub wants : (sub : ℕ) (c : change_type.Change) → done.wants ≡ Some (sub, c)
      → (more : List Item) × (does.left ≡ Change sub c ∷ more)

-- A transaction of the state is in step with its outbox and with the world, or it is spooled and
-- has neither; what is not open there is nowhere.
abbrev pub IsAgreed : Setting → State → List CopyItem → ℕ → Option Open → Option Outbox
    → Option Opened → Type 0
IsAgreed g s rest xid None None None = Unit {0}
IsAgreed g s rest xid (Some o) None None = o.way ≡ Spooled
IsAgreed g s rest xid (Some o) (Some outbox) (Some done) = InStep g s rest xid o outbox done
IsAgreed g s rest xid _ _ _ = ⊥

-- Each part of the world is reached by parts of calls from these rows, its commits are those of the
-- state, and so it is with each transaction.
pub record AreInStep (g : Setting) (rows : Rows) (s : State) (rest : List CopyItem)
    (outboxes : ℕ → Option Outbox) (w : World) : Type 0 where
  pub led : IsLed (schema_of g) rows w
  pub line : w.line ≡ map done_by_commit s.past
  pub agree : (xid : ℕ)
      → IsAgreed g s rest xid (get s.transactions xid) (outboxes xid) (get w.opened xid)

-- Each count that is named of a transaction with an outbox is of all items of the outbox. The last
-- number of a u64 is no count: it stands where there were more, or where a name is of no
-- transaction.
abbrev pub AreCounts : (ℕ → Option Outbox) → List (ℕ × ℕ) → Type 0
AreCounts outboxes named =
    (xid count : ℕ) (outbox : Outbox) → Contains named (xid, count) → count < 2 ^ 64 - 1
    → outboxes xid ≡ Some outbox → count ≡ length (outbox.sent ++ outbox.queued)
