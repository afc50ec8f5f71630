-- The laws of a run in the words of a world, each as one statement. `src/laws.rt` names them, so
-- that the check proves them.
use Rattle.std.specs.Prelude.{◌≡◌, ◌≢◌, ℕ, List, [], Option, Some, map, ◌⊎◌}
use Rattle.std.specs.FinMap.{get}
use Rattle.model.specs.Effect.{ClashCause, serial}
use Rattle.model.specs.Rows.{Rows, IsValid}
use Rattle.model.specs.declared.change.Change as change_type
use Rattle.frames.specs.declared.fault.FrameFault.TheVariants.{Device}
use Rattle.frames.specs.declared.item.CopyItem.{CopyItem}
use Rattle.session.specs.State.{State, Setting, begun_at}
use Rattle.run.specs.Cause.{schema_of}
use Rattle.engine.specs.Engine.{entry_in}
use Rattle.run.specs.Commits.{commits, changes_of_entries, commit_ends}
use Rattle.model.specs.Beginning.{last_end}
use Rattle.run.specs.Devices.{DeviceState}
use Rattle.run.specs.Progress.{Progress, Leads, start_progress}
use Rattle.run.specs.Run.{IsRun}
use Rattle.model.specs.Accepted.{AreAccepted}
use Rattle.run.specs.declared.end.End.TheVariants as ends
use Rattle.run.specs.declared.outcome.Outcome.{Outcome}
use Rattle.world.specs.Steps.{Reaches, Closes, IsStuck}
use Rattle.world.specs.World.{Opened, ByClash, World, starting, journal}
use Rattle.world_parts.specs.Led.{IsLed}
use Rattle.run_laws.specs.Leading.{Outbox, AreInStep, AreCounts}
use Rattle.run_laws.specs.Runs.{CommitsNext, LeavesWorld, IsAtMostOne}
use Rattle.run_laws.specs.Threads.{IsWorldOf, AreBytes}
use Rattle.run_laws.specs.Turns.{Moment, start_moment, IsInStep, Turns}
use Rattle.run_laws.specs.ThreadedRun.{HasConflict, IsStuckBy, IsThreadedRun}
use Rattle.run_laws.specs.FirstCause.{IsAtFirstCause}

-- ---- runs with workers

-- whatever the leader and the workers did, and whatever ended the run: its journal are the commits
-- of the items that were handled, in their order, each with the changes that survived; its tables
-- are the start rows with the changes of the journal, one commit after another, of which none
-- clashes; its position is the end of the last
abbrev pub ThreadedIsSerial : Type 0
ThreadedIsSerial =
    (g : Setting) (rows : Rows) (old new : DeviceState) (o : Outcome)
    (run : IsThreadedRun g rows old new o) → IsValid (schema_of g) rows
    → (map entry_in o.journal.items ≡ commits run.part.progress.state)
    × (o.tables.rows
    ≡ serial (schema_of g) rows (changes_of_entries (map entry_in o.journal.items)))
    × AreAccepted (schema_of g) rows (changes_of_entries (map entry_in o.journal.items))
    × (o.position ≡ last_end (commit_ends run.part.progress.state.past))

-- what was open at its end has left nothing: there is a world in which none is open any more, each
-- part of which is reached by parts of calls, and the run leaves what closing that world gives
abbrev pub OpenLeavesNothing : Type 0
OpenLeavesNothing =
    (g : Setting) (rows : Rows) (old new : DeviceState) (o : Outcome)
    (run : IsThreadedRun g rows old new o)
    → (closed : World) × IsLed (schema_of g) rows closed
    × Closes closed o.tables.rows (journal closed) × LeavesWorld o closed

-- the same items lead to the same commits and the same status updates, however many workers there
-- are, and whatever the spools have room for
abbrev pub WorkersAlterNothing : Type 0
WorkersAlterNothing =
    (g h : Setting) (items : List CopyItem) (p q : Progress)
    → h.catalog ≡ g.catalog → h.skip ≡ g.skip
    → Leads g start_progress items p → Leads h start_progress items q
    → (commits q.state ≡ commits p.state) × (q.state.position ≡ p.state.position)
    × (q.seen ≡ p.seen) × (q.updates ≡ p.updates)

-- so a clean run leaves what a run without workers does that handles all items of the same bytes:
-- the same journal, position and tables, and the same status updates but for their times
abbrev pub CleanIsWithoutThreads : Type 0
CleanIsWithoutThreads =
    (g h : Setting) (rows : Rows) (old new before after : DeviceState) (o p : Outcome)
    (run : IsThreadedRun g rows old new o) (alone : IsRun h rows before after p)
    → IsValid (schema_of g) rows → h.catalog ≡ g.catalog → h.skip ≡ g.skip → o.end ≡ ends.Clean
    → alone.part.bytes ≡ run.part.bytes → alone.part.rest ≡ []
    → (map entry_in p.journal.items ≡ map entry_in o.journal.items)
    × (p.position ≡ o.position) × (p.tables.rows ≡ o.tables.rows)
    × (alone.part.progress.updates ≡ run.part.progress.updates)

-- and its journal, position and tables are those of any run without workers over the same bytes,
-- whose spools have room for all of their items, and which neither memory nor a device fails
abbrev pub CleanWhereThereIsRoom : Type 0
CleanWhereThereIsRoom =
    (g h : Setting) (rows : Rows) (old new before after : DeviceState) (o p : Outcome)
    (run : IsThreadedRun g rows old new o) (alone : IsRun h rows before after p)
    → IsValid (schema_of g) rows → h.catalog ≡ g.catalog → h.skip ≡ g.skip → o.end ≡ ends.Clean
    → alone.part.bytes ≡ run.part.bytes → AreBytes run.part.handled
    → (q : Progress) → Leads h start_progress run.part.handled q
    → p.end ≢ ends.OutOfMemory → p.end ≢ ends.Frame Device
    → (map entry_in p.journal.items ≡ map entry_in o.journal.items)
    × (p.position ≡ o.position) × (p.tables.rows ≡ o.tables.rows)

-- without workers it is a run without threads: one transaction is open at most, so none waits for
-- another
abbrev pub OneIsOpenWithoutWorkers : Type 0
OneIsOpenWithoutWorkers =
    (g : Setting) (rows : Rows) (old new : DeviceState) (o : Outcome)
    (run : IsThreadedRun g rows old new o) → g.workers ≡ 0
    → IsAtMostOne run.world.opened × ((xid holder : ℕ) → o.end ≢ ends.HeldKey xid holder)

-- ---- a run without threads: one with no workers that ends at its first cause

-- it is a run with no workers that handled the same items, and calls reach its world
abbrev pub RunIsWithoutWorkers : Type 0
RunIsWithoutWorkers =
    (g : Setting) (rows : Rows) (old new : DeviceState) (o : Outcome) (run : IsRun g rows old new o)
    → g.workers ≡ 0
    → (same : IsThreadedRun g rows old new o) × (same.part.handled ≡ run.part.handled)
    × ∥ Reaches (schema_of g) (starting rows) same.world ∥₁

-- it ends at its first cause
abbrev pub EndsAtFirstCause : Type 0
EndsAtFirstCause =
    (g : Setting) (rows : Rows) (old new : DeviceState) (o : Outcome) (run : IsRun g rows old new o)
    → IsAtFirstCause g rows run.part.handled run.part.rest run.part.progress.state o.end

-- and a run with no workers that ends at its first cause is a run without threads that handled the
-- same items
abbrev pub FirstCauseIsWithoutThreads : Type 0
FirstCauseIsWithoutThreads =
    (g : Setting) (rows : Rows) (old new : DeviceState) (o : Outcome)
    (run : IsThreadedRun g rows old new o) → IsValid (schema_of g) rows → g.workers ≡ 0
    → IsAtFirstCause g rows run.part.handled run.part.rest run.part.progress.state o.end
    → (alone : IsRun g rows old new o) × (alone.part.handled ≡ run.part.handled)

-- ---- a leader and its workers

-- whatever a leader and its workers do, and in whatever order: at each moment all transactions are
-- in step with the world, which is one of the state; where all that they do are calls, these reach it
abbrev pub EachMomentIsInStep : Type 0
EachMomentIsInStep =
    (g : Setting) (rows : Rows) (items : List CopyItem) (a : Moment)
    → Turns g (start_moment rows items) a
    → IsInStep g rows a × IsWorldOf g rows a.state a.rest a.world
    × ∥ Reaches (schema_of g) (starting rows) a.world ∥₁

-- where a leader's transactions are in step with the world, that is one of its state
abbrev pub InStepIsWorld : Type 0
InStepIsWorld =
    (g : Setting) (rows : Rows) (s : State) (rest : List CopyItem) (outboxes : ℕ → Option Outbox)
    (w : World)
    → AreInStep g rows s rest outboxes w → IsWorldOf g rows s rest w

-- and a clash that was noted there is the conflict that the run ends for, while its transaction
-- wants a change: that is the one which clashed
abbrev pub NotedClashIsConflict : Type 0
NotedClashIsConflict =
    (g : Setting) (rows : Rows) (s : State) (rest : List CopyItem) (outboxes : ℕ → Option Outbox)
    (w : World)
    → AreInStep g rows s rest outboxes w → IsValid (schema_of g) rows
    → (xid : ℕ) (c : change_type.Change) (cause : ClashCause)
    → w.stopped ≡ Some (ByClash xid c cause)
    → (done : Opened) → get w.opened xid ≡ Some done
    → (sub : ℕ) (e : change_type.Change) → done.wants ≡ Some (sub, e)
    → HasConflict g s rest w cause

-- where the call that stops a world answers a holder, for a transaction whose turn it is, nothing
-- goes on: the run ends for that holder
abbrev pub HeldIsStuck : Type 0
HeldIsStuck =
    (g : Setting) (rows : Rows) (s : State) (rest : List CopyItem) (outboxes : ℕ → Option Outbox)
    (w : World)
    → AreInStep g rows s rest outboxes w → (named : List (ℕ × ℕ)) (waiter holder : ℕ)
    → AreCounts outboxes named
    → (begun_at s.phase ≡ Some waiter) ⊎ CommitsNext g s rest waiter
    → IsStuck (schema_of g) w named waiter holder → IsStuckBy g s rest w waiter holder
