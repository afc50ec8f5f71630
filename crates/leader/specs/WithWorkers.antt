-- What a run with workers leaves, as a function of the bytes that it read.
--     WasSent      the status updates that went out
--     LeavesLine      a leader has ended a run, and what it left
--     IsShutSo      what is left of a store
--     IsRunByWorkers      a run: why it ended, the commits of the items up to its end, and nothing else
--     RunsBy      a run by so many workers, beside so many watchers
use Rattle.std.specs.Prelude.{◌≡◌, ℕ, zero, suc, List, map, ◌⊎◌}
use Rattle.model.specs.Rows.{Rows, Schema}
use Rattle.model.specs.Effect.{serial}
use Rattle.model.specs.Definition.{Definition}
use Rattle.frames.specs.Stream.{copy_items}
use Rattle.world.specs.World.{World, entry_of, changes_in}
use Rattle.world.specs.Steps.{Closes}
use Rattle.world_parts.specs.Led.{IsLed}
use Rattle.engine.specs.declared.events.LineEvent.{LineEvent}
use Rattle.engine.specs.Engine.{entry_in}
use Rattle.engine.specs.Events.{commits_in}
use Rattle.live_tables.specs.Journal.{rows_after}
use Rattle.session.specs.State.{Setting}
use Rattle.run.specs.Settings.{setting_of}
use Rattle.run.specs.declared.end.End.{End}
use Rattle.run.specs.declared.end.End.TheVariants.{Clean}
use Rattle.run.specs.declared.outcome.Config.{Config}
use Rattle.run.specs.declared.outcome.Outcome.{Outcome}
use Rattle.run.specs.Commits.{commits, committed_changes, commit_ends}
use Rattle.model.specs.Beginning.{last_end}
use Rattle.run.specs.Cause.{schema_of, AreAllSent, LastIsCut}
use Rattle.run.specs.Devices.{DeviceState}
use Rattle.run.specs.Handler.{IsRunOver}
use Rattle.run.specs.Run.{IsRun}
use Rattle.run.specs.StreamPart.{StreamPart}
use Rattle.run_laws.specs.Threads.{IsWorldOf}
use Rattle.run_laws.specs.ThreadedRun.{IsThreadedCause, IsThreadedRun}
use Rattle.table_locks.specs.Noted.{IsNoted}
use Rattle.leader.specs.Threads.{Led, Represents, HasLedTo}
use Rattle.leader.specs.Decided.{IsDecided}

-- The status updates went out: all of them, or all but a part of the last.
abbrev pub WasSent : {g : Setting} {old new : DeviceState} → StreamPart g old new → Type 0
WasSent part = AreAllSent part ⊎ LastIsCut part

-- A leader has ended a run so, at a world of its items, for a cause there: a clash that is noted in it, and whom a
-- transaction waits for there, are answered by what was proposed. It has left a line that tells the world's commits, and
-- the position that they reach.
pub record LeavesLine (g : Setting) (rows : Rows) (old new : DeviceState) (line : List LineEvent) (position : ℕ) (end : End) : Type 0 where
  pub led : Led
  pub proposed : End
  pub over : IsRunOver g (Represents g rows) (HasLedTo g rows) old new led proposed
  pub world : World
  pub is_world : IsWorldOf g rows over.part.progress.state over.part.rest world
  pub cause : IsThreadedCause over.part world end
  pub given : List (ℕ × ℕ)
  pub decided : IsDecided (schema_of g) world (IsNoted world) given proposed end
  pub committed : world.committed ≡ serial (schema_of g) rows (changes_in world.line)
  pub told : commits_in line ≡ world.line
  pub reached : position ≡ led.position

-- What is left of a store: the commits that its line told, and the start rows with the changes of its journal.
pub record IsShutSo (keys : Schema) (rows : Rows) (line : List LineEvent) (o : Outcome) : Type 0 where
  pub journal : map entry_in o.journal.items ≡ map entry_of (commits_in line)
  pub tables : o.tables.rows ≡ rows_after keys rows (map entry_in o.journal.items)
  pub schema : o.tables.schema ≡ keys

-- A run with workers from these rows: the items handled are those of the bytes up to its end, at which there is a world
-- of theirs, each part of which is reached by parts of calls on a store, and a cause of the end; all of them if it ended
-- cleanly. The end is the one that was decided there: of a clash, where a change of an open transaction stopped that
-- world, and it wants one still. What is left are the commits among them, each with the changes of its transaction that
-- survived its rollbacks, applied one after another in their order. A world whose parts are reached so closes with them.
pub record IsRunByWorkers (g : Setting) (rows : Rows) (old new : DeviceState) (o : Outcome) : Type 0 where
  pub run : IsThreadedRun g rows old new o
  pub proposed : End
  pub given : List (ℕ × ℕ)
  pub decided : IsDecided (schema_of g) run.world (IsNoted run.world) given proposed o.end
  pub sent : WasSent run.part
  pub clean : o.end ≡ Clean → run.part.handled ≡ copy_items run.part.bytes
  pub journal : map entry_in o.journal.items ≡ commits run.part.progress.state
  pub position : o.position ≡ last_end (commit_ends run.part.progress.state.past)
  pub tables : o.tables.rows ≡ serial (schema_of g) rows (committed_changes run.part.progress.state)
  pub world : ∥ ((w : World) × IsLed (schema_of g) rows w × Closes w o.tables.rows (map entry_in o.journal.items)) ∥₁

-- A run by so many workers, beside so many watchers; without any of both it is the run without threads.
abbrev pub RunsBy : ℕ → ℕ → List Definition → Config → Rows → DeviceState → DeviceState → Outcome → Type 0
RunsBy zero zero catalog config rows old new o = IsRun (setting_of zero config catalog) rows old new o
RunsBy zero (suc v) catalog config rows old new o = IsRunByWorkers (setting_of zero config catalog) rows old new o
RunsBy (suc n) v catalog config rows old new o = IsRunByWorkers (setting_of (suc n) config catalog) rows old new o
