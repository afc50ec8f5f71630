-- A run in the words of a world.
--     LeavesWorld      a run leaves just the commits of a world
--     IsAtMostOne      no two transactions are open
--     IsCommitOf, CommitsNext      a payload commits a transaction; the next message does
--     DoesAtCommit      a payload commits a transaction that does these items then
--     NextChange      the next item of a transaction's work is a change, and which
use Rattle.std.specs.Prelude.{◌≡◌, ℕ, List, [], ◌∷◌, ◌++◌, map, Some}
use Rattle.std.specs.FinMap.{get}
use Rattle.model.specs.declared.change.Change.{Change}
use Rattle.model.specs.declared.item.Item.{Item}
use Rattle.model.specs.declared.item.Item.TheVariants.{Change as ItemChange}
use Rattle.model.specs.Survivors.{survivors}
use Rattle.messages.specs.declared.message.Message.{Message}
use Rattle.frames.specs.declared.item.CopyItem.{CopyItem}
use Rattle.session.specs.Sized.{item_of}
use Rattle.session.specs.State.{Committed, State, Setting}
use Rattle.session.specs.Lawful.{Admits}
use Rattle.run.specs.declared.outcome.Outcome.{Outcome}
use Rattle.engine.specs.Engine.{entry_in}
use Rattle.run.specs.Cause.{IsNext}
use Rattle.world.specs.World.{Opened, OpenOnes, World, journal, ends_of}
use Rattle.model.specs.Beginning.{last_end}

-- No two of these transactions are open.
abbrev pub IsAtMostOne : OpenOnes → Type 0
IsAtMostOne opened =
    (xid other : ℕ) (o p : Opened) → get opened xid ≡ Some o → get opened other ≡ Some p
    → xid ≡ other

-- The run leaves the commits of the world: they are the journal, whose end is the position, and the
-- committed rows are the tables.
pub record LeavesWorld (o : Outcome) (w : World) : Type 0 where
  pub entries : map entry_in o.journal.items ≡ journal w
  pub position : o.position ≡ last_end (ends_of w)
  pub tables : o.tables.rows ≡ w.committed

-- ---- the message that comes next

-- The payload is a message that commits this transaction.
pub record IsCommitOf (g : Setting) (s : State) (payload : List ℕ) (xid : ℕ) : Type 0 where
  pub message : Message
  pub state : State
  pub admits : Admits g s payload message state
  pub committed : Committed
  pub past : state.past ≡ s.past ++ committed ∷ []
  pub xid_is : committed.xid ≡ xid

-- The next message commits this transaction.
abbrev pub CommitsNext : Setting → State → List CopyItem → ℕ → Type 0
CommitsNext g s rest xid = IsNext rest (λ payload. IsCommitOf g s payload xid)

-- The payload commits a transaction that does these items at its commit.
abbrev pub DoesAtCommit : Setting → State → List ℕ → ℕ → List Item → Type 0
DoesAtCommit g s payload xid work =
    (by : IsCommitOf g s payload xid) × (survivors xid (map item_of by.committed.items) ≡ work)

-- ---- a change that comes next

-- The transaction has done the first of these items; the next is a change of a subtransaction, and
-- this is so of what was done and of that change.
pub record NextChange (w : World) (xid : ℕ) (work : List Item) (P : Opened → ℕ → Change → Type 0)
    : Type 0 where
  pub transaction : Opened
  pub present : get w.opened xid ≡ Some transaction
  pub subtransaction : ℕ
  pub change : Change
  pub after : List Item
  pub in_turn : transaction.items ++ ItemChange subtransaction change ∷ after ≡ work
  pub so : P transaction subtransaction change
