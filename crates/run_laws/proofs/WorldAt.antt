-- A run without threads in the words of a world.
--     committed_past, open_ones      a commit, and the transaction that was begun, as a world has them
--     world_at      the world that the state of a stream is, where each transaction is applied alone
--     TellsRun      the world has just what the run leaves
--     conflict      the conflict that ended a run
--     IsTurnOf, IsStoppedBy      whose turn it is, and with which items; one of its changes clashes
--         so in the world
use Rattle.std.specs.Prelude.{◌≡◌, ℕ, List, map, Option, Some, None, Ok, ◌⊎◌}
use Rattle.std.specs.FinMap as finite
use Rattle.model.specs.declared.item.Item.{Item}
use Rattle.model.specs.Rows.{Rows, Schema}
use Rattle.model.specs.Effect.{ClashCause, NullKey, Unique, serial}
use Rattle.model.specs.Survivors.{survivors}
use Rattle.frames.specs.declared.item.CopyItem.{CopyItem}
use Rattle.session.specs.Sized.{item_of}
use Rattle.session.specs.State.{Committed, State, Setting}
use Rattle.run.specs.declared.end.End.{End}
use Rattle.run.specs.declared.end.End.TheVariants as ends
use Rattle.run.specs.declared.outcome.Outcome.{Outcome}
use Rattle.run.specs.Cause.{schema_of, IsNext}
use Rattle.run.specs.Commits.{committed_changes}
use Rattle.world.specs.World.{Past, OpenOnes, World, starting}
use Rattle.world.specs.Steps.{Clashed, Acts, Reaches}
use Rattle.run_laws.specs.Runs.{LeavesWorld, IsAtMostOne, DoesAtCommit, NextChange}
use Rattle.run_laws.proofs.Begun.{begun}

-- a commit, with the items that survived its rollbacks
abbrev pub committed_past : Committed → Past
committed_past c = record { xid = c.xid; items = survivors c.xid (map item_of c.items); info = c.info }

-- the transaction that was begun alone is open, with its items that survived, and waits for nothing
abbrev pub open_ones : Option (ℕ × List Item) → OpenOnes
open_ones None = finite.empty
open_ones (Some b) = finite.insert finite.empty b.0
    (record { items = survivors b.0 b.1; wants = None })

-- The world that a state is over these rows: the commits so far, in order, then the transaction
-- that was begun, and nothing has stopped it. What is spooled, or given to workers, is not yet open
-- in it.
abbrev pub world_at : Schema → Rows → State → World
world_at schema rows s = record {
  start = rows;
  committed = serial schema rows (committed_changes s);
  line = map committed_past s.past;
  opened = open_ones (begun s);
  stopped = None;
}

-- ---- a run

-- Calls reach the world from these rows; it has the commits that the state tells of, which the run
-- leaves; at most one transaction is open in it, and nothing has stopped it.
pub record TellsRun (g : Setting) (rows : Rows) (s : State) (o : Outcome) (w : World) : Type 0 where
  pub reached : Reaches (schema_of g) (starting rows) w
  pub line : w.line ≡ map committed_past s.past
  pub left : LeavesWorld o w
  pub alone : IsAtMostOne w.opened
  pub running : w.stopped ≡ None

-- the conflict of a change that ended a run, if one did
abbrev pub conflict : End → Option ClashCause
conflict ends.Clean = None
conflict (ends.Frame fault) = None
conflict (ends.Msg fault) = None
conflict (ends.Session fault) = None
conflict (ends.Rel fault) = None
conflict (ends.Unique table key) = Some (Unique table key)
conflict (ends.NullKey table) = Some (NullKey table)
conflict (ends.HeldKey xid holder) = None
conflict ends.OutOfMemory = None

-- ---- a conflict

-- It is a transaction's turn to do these items: it is the one that was begun, or the next message
-- commits it.
abbrev pub IsTurnOf : Setting → State → List CopyItem → ℕ → List Item → Type 0
IsTurnOf g s rest xid work =
    ((items : List Item) × (begun s ≡ Some (xid, items)) × (survivors xid items ≡ work))
    ⊎ IsNext rest (λ payload. DoesAtCommit g s payload xid work)

-- The transaction has done the first of these items, and tries the next, a change, which clashes
-- so: that call stops the world.
abbrev pub IsStoppedBy : Schema → World → ℕ → List Item → ClashCause → Type 0
IsStoppedBy schema w xid work cause =
    NextChange w xid work (λ o sub c. (new : World) × Acts schema w xid o sub c (Ok (Clashed cause)) new)
