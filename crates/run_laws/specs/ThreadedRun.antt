-- A run with workers: why it ends, and what it leaves.
--     HasConflict      the next change of an open transaction clashes
--     WaitsOn, HasDoneAll, AllWait, IsStuckBy      nothing goes on, and a transaction whose turn it
--         is waits for a cell of another
--     IsThreadedCause      why a run ends, for each end
--     IsThreadedRun      a run
use Rattle.std.specs.Prelude.{◌≡◌, ◌≢◌, ℕ, List, Some, None, ◌⊎◌}
use Rattle.std.specs.FinMap.{get}
use Rattle.model.specs.Rows.{Rows}
use Rattle.model.specs.declared.item.Item.{Item}
use Rattle.model.specs.Effect.{ClashCause, NullKey, Unique}
use Rattle.model.specs.Footprint.{footprint}
use Rattle.frames.specs.declared.fault.FrameFault.TheVariants.{Device}
use Rattle.frames.specs.declared.item.CopyItem.{CopyItem}
use Rattle.session.specs.declared.fault.Refused.TheVariants as by
use Rattle.session.specs.State.{Spooled, Open, State, Setting, begun_at}
use Rattle.run.specs.declared.end.End.{End}
use Rattle.run.specs.declared.end.End.TheVariants as ends
use Rattle.run.specs.declared.outcome.Outcome.{Outcome}
use Rattle.run.specs.Cause.{schema_of, RefusesNext}
use Rattle.run.specs.Cause.{HasGoneWell, CouldNotSend, HadNoMemoryToSend, CouldNotRead, IsOver}
use Rattle.run.specs.Devices.{DeviceState}
use Rattle.run.specs.StreamPart.{StreamPart}
use Rattle.world.specs.Steps.{IsClashing}
use Rattle.world.specs.World.{Opened, World, own_rows, IsHeldBy}
use Rattle.run_laws.specs.Runs.{CommitsNext, NextChange, LeavesWorld}
use Rattle.run_laws.specs.Threads.{IsWork, IsWorldOf}

-- ---- a conflict

-- The next item of some open transaction's work is a change that clashes so, where nobody else
-- holds a cell of it.
pub record HasConflict (g : Setting) (s : State) (rest : List CopyItem) (w : World)
    (cause : ClashCause) : Type 0 where
  pub xid : ℕ
  pub transaction : Open
  pub present : get s.transactions xid ≡ Some transaction
  pub work : List Item
  pub is_work : IsWork g s rest xid transaction.way transaction.items work
  pub clashes : NextChange w xid work (λ done sub c. IsClashing (schema_of g) w xid done c cause)

-- ---- where nothing goes on

-- The next item of its work is a change, and the holder, another open transaction, holds a cell of
-- it.
pub record WaitsOn (g : Setting) (s : State) (rest : List CopyItem) (w : World) (xid : ℕ) (o : Open)
    (holder : ℕ) : Type 0 where
  pub work : List Item
  pub is_work : IsWork g s rest xid o.way o.items work
  pub waits : NextChange w xid work (λ done sub c. IsHeldBy (schema_of g) w xid
      (footprint (schema_of g) (own_rows (schema_of g) w xid done) c) holder)

-- It has done all of its work.
abbrev pub HasDoneAll : Setting → State → List CopyItem → World → ℕ → Open → Type 0
HasDoneAll g s rest w xid o =
    (done : Opened) × (get w.opened xid ≡ Some done)
    × IsWork g s rest xid o.way o.items done.items

-- Each transaction that is not spooled has done all of its work, or waits for a cell of another.
abbrev pub AllWait : Setting → State → List CopyItem → World → Type 0
AllWait g s rest w =
    (xid : ℕ) (o : Open) → get s.transactions xid ≡ Some o → o.way ≢ Spooled
    → HasDoneAll g s rest w xid o ⊎ ((holder : ℕ) × WaitsOn g s rest w xid o holder)

-- It is the turn of this transaction: it was begun, or the next message commits it. It waits for a
-- cell of the holder, and nothing else goes on.
pub record IsStuckBy (g : Setting) (s : State) (rest : List CopyItem) (w : World) (xid holder : ℕ)
    : Type 0 where
  pub turn : (begun_at s.phase ≡ Some xid) ⊎ CommitsNext g s rest xid
  pub transaction : Open
  pub present : get s.transactions xid ≡ Some transaction
  pub waits : WaitsOn g s rest w xid transaction holder
  pub settled : AllWait g s rest w

-- ---- a run that handled this part of its stream

-- This table is for a run with workers, over a world; `IsCause` of `run` is for one without
-- threads, at its first cause. Two are kept on purpose, tied by the laws `run_is_without_workers`,
-- `ends_at_first_cause` and `first_cause_is_without_threads`.
module _ {g : Setting} {old new : DeviceState} (part : StreamPart g old new) (w : World) where
  -- the state that its items led to
  abbrev s : State
  s = part.progress.state

  -- the items that it left
  abbrev rest : List CopyItem
  rest = part.rest

  -- Why it ends at this world.
  abbrev pub IsThreadedCause : End → Type 0
  IsThreadedCause ends.Clean = IsOver part None × (w.stopped ≡ None)
  IsThreadedCause (ends.Frame Device) = CouldNotRead part ⊎ CouldNotSend part
  IsThreadedCause (ends.Frame fault) = IsOver part (Some fault)
  IsThreadedCause (ends.Msg fault) = HasGoneWell part × RefusesNext g s rest (by.Msg fault)
  IsThreadedCause (ends.Session fault) = HasGoneWell part × RefusesNext g s rest (by.Session fault)
  IsThreadedCause (ends.Rel fault) = HasGoneWell part × RefusesNext g s rest (by.Rel fault)
  IsThreadedCause (ends.Unique table key) = HasGoneWell part × HasConflict g s rest w (Unique table key)
  IsThreadedCause (ends.NullKey table) = HasGoneWell part × HasConflict g s rest w (NullKey table)
  IsThreadedCause (ends.HeldKey xid holder) = HasGoneWell part × IsStuckBy g s rest w xid holder
  IsThreadedCause ends.OutOfMemory = HasGoneWell part ⊎ HadNoMemoryToSend part

-- A run with workers from these rows: it handled items of the bytes; there is a world of the state
-- that they led to, at which the run ended for its cause. What is left are the commits of that
-- world, and nothing of what was open in it.
pub record IsThreadedRun (g : Setting) (rows : Rows) (old new : DeviceState) (o : Outcome)
    : Type 0 where
  pub part : StreamPart g old new
  pub world : World
  pub is_world : IsWorldOf g rows part.progress.state part.rest world
  pub cause : IsThreadedCause part world o.end
  pub left : LeavesWorld o world
  pub schema : o.tables.schema ≡ schema_of g
