-- What a store keeps through its calls, each as one statement. `src/laws.rt` names them, so that the check proves them.
-- The calls are those of a world; what is asked of tables and records is what the layers below tell.
use Rattle.std.specs.Prelude.{◌≡◌, ◌≢◌, ◌⊎◌, ◌↔◌, ◌==◌, ◌≤◌, ℕ, List, length, take, All, [], ◌∷◌, Option, Some, None, Ok}
use Rattle.std.specs.FinMap as finite
use Rattle.std.specs.FinMap.{get}
use Rattle.std.specs.List.{Contains}
use Rattle.model.specs.declared.change.Change as change_type
use Rattle.model.specs.declared.cell.Cell.{Cell}
use Rattle.model.specs.declared.item.Item.{Item}
use Rattle.model.specs.declared.item.Item.TheVariants.{Change, Touch, BackTo}
use Rattle.model.specs.Survivors.{is_of, after_item}
use Rattle.model.specs.declared.item.CommitInfo.{CommitInfo}
use Rattle.model.specs.Rows.{Place, Schema, IsValid}
use Rattle.model.specs.Effect.{ClashCause, Skip, Clashes, outcome, serial}
use Rattle.model.specs.Footprint.{looked_up, footprint, held_cells}
use Rattle.savepoint.specs.Savepoints.{mark_at, before_mark}
use Rattle.savepoint.specs.Record.{Record, inverses_since}
use Rattle.indexes.specs.Content.{Content}
use Rattle.change.specs.declared.inverse.Inverse.{Inverse}
use Rattle.undo.specs.Undo.{CanUndo, AreKnownAll}
use Rattle.world.specs.World.{Opened, Stop, ByClash, World, starting, work, changes_in, own_rows, IsHeldBy, IsFree}
use Rattle.world.specs.Steps.{Fault, StopsHeld, ReadsLive, IsDone, IsSkipped, Held, Clashed, Opens, Acts, Touches, GoesBack, Commits, Aborts, opened_with, done_with, wanting, committed_with, aborted_with}
use Rattle.world.specs.Fine.{IsFine}
use Rattle.keyholds.specs.Holds.{IsFreeCell, IsFirstHeldBy}
use Rattle.live_tables.specs.Held.{HasSameCells, AreHolds, IsHeldAt, HasHeldMarks, up_to_held}
use Rattle.live_tables.specs.KeptRecords.{IsRecordOf, Represents, IsPutAt}
use Rattle.live_tables.specs.CallResults.{HasSameRows, IsApplied, IsRolledBack, IsTakenBack, IsReleased, IsFresh, HasItem, HasTheSame}

-- a store: tables, a world, and a record for each open transaction
abbrev pub Records : Type 0
Records = ℕ → Option Record

-- the changes that a transaction tries meet no other's cell: on the live rows, the looked-up row's cell and then all of them
abbrev pub IsFreeLive : Schema → Content → World → ℕ → change_type.Change → Type 0
IsFreeLive schema t w xid c = IsFree schema w xid (looked_up c) × IsFree schema w xid (footprint schema t.rows c)

-- at first no transaction is open
abbrev pub StartIsKept : Type 0
StartIsKept =
    (t : Content) (records : Records) → IsValid t.schema t.rows → ((xid : ℕ) → records xid ≡ None)
    → Represents t.schema t (starting t.rows) records

-- a transaction opens
abbrev pub OpenIsKept : Type 0
OpenIsKept =
    (schema : Schema) (t : Content) (w : World) (records : Records) → Represents schema t w records → (xid : ℕ) (new : World)
    → Opens w xid (Ok tt) new → (after : Records) (r : Record) → IsPutAt records xid (Some r) after → IsFresh xid r
    → Represents schema t new after

-- a change is done: the tables were asked alone, and so it is on the transaction's own view
abbrev pub DoneIsKept : Type 0
DoneIsKept =
    (schema : Schema) (t : Content) (w : World) (records : Records) (kept : Represents schema t w records) (xid : ℕ) (o : Opened)
    (is : get w.opened xid ≡ Some o) → w.stopped ≡ None → (sub : ℕ) (c : change_type.Change) → IsFreeLive schema t w xid c
    → (new : Content) (i : Inverse) → IsApplied schema t new c i → (after : Records) (s : Record) → IsPutAt records xid (Some s) after
    → HasItem xid sub (Change sub c) (i ∷ []) (kept.ready xid o is).its s
    → Acts schema w xid o sub c (Ok IsDone) (done_with w xid o (Change sub c)) × Represents schema new (done_with w xid o (Change sub c)) after

-- a change is skipped
abbrev pub SkipIsKept : Type 0
SkipIsKept =
    (schema : Schema) (t : Content) (w : World) (records : Records) (kept : Represents schema t w records) (xid : ℕ) (o : Opened)
    (is : get w.opened xid ≡ Some o) → w.stopped ≡ None → (sub : ℕ) (c : change_type.Change) → IsFreeLive schema t w xid c
    → outcome schema t.rows c ≡ Skip → (new : Content) → HasSameRows schema t new → (after : Records) (s : Record)
    → IsPutAt records xid (Some s) after → HasItem xid sub (Change sub c) [] (kept.ready xid o is).its s
    → Acts schema w xid o sub c (Ok IsSkipped) (done_with w xid o (Change sub c)) × Represents schema new (done_with w xid o (Change sub c)) after

-- another holds a cell of it: of the looked-up row, or where that is free, of any
abbrev pub HeldIsKept : Type 0
HeldIsKept =
    (schema : Schema) (t : Content) (w : World) (records : Records) (kept : Represents schema t w records) (xid : ℕ) (o : Opened)
    (is : get w.opened xid ≡ Some o) → w.stopped ≡ None → (sub : ℕ) (c : change_type.Change) (holder : ℕ)
    → IsHeldBy schema w xid (looked_up c) holder ⊎ (IsFree schema w xid (looked_up c) × IsHeldBy schema w xid (footprint schema t.rows c) holder)
    → (new : Content) → HasSameRows schema t new → (after : Records) (s : Record) → IsPutAt records xid (Some s) after
    → HasTheSame (kept.ready xid o is).its s
    → Acts schema w xid o sub c (Ok (Held holder)) (wanting w xid o sub c) × Represents schema new (wanting w xid o sub c) after

-- it clashes, and stops the world
abbrev pub ClashIsKept : Type 0
ClashIsKept =
    (schema : Schema) (t : Content) (w : World) (records : Records) (kept : Represents schema t w records) (xid : ℕ) (o : Opened)
    (is : get w.opened xid ≡ Some o) → w.stopped ≡ None → (sub : ℕ) (c : change_type.Change) (cause : ClashCause) → IsFreeLive schema t w xid c
    → outcome schema t.rows c ≡ Clashes cause → (new : Content) → HasSameRows schema t new → (after : Records) (s : Record)
    → IsPutAt records xid (Some s) after → HasTheSame (kept.ready xid o is).its s
    → let stopped = record (wanting w xid o sub c) { stopped = Some (ByClash xid c cause) } in
    Acts schema w xid o sub c (Ok (Clashed cause)) stopped × Represents schema new stopped after

-- a touch
abbrev pub TouchIsKept : Type 0
TouchIsKept =
    (schema : Schema) (t : Content) (w : World) (records : Records) (kept : Represents schema t w records) (xid : ℕ) (o : Opened)
    (is : get w.opened xid ≡ Some o) (sub : ℕ) (new : World) → Touches w xid o sub (Ok tt) new → (after : Records) (s : Record)
    → IsPutAt records xid (Some s) after → HasItem xid sub (Touch sub) [] (kept.ready xid o is).its s → Represents schema t new after

-- a call that is refused leaves the world
abbrev pub RefusalIsKept : Type 0
RefusalIsKept =
    (schema : Schema) (t : Content) (w : World) (records : Records) (kept : Represents schema t w records) (xid : ℕ) (o : Opened)
    (is : get w.opened xid ≡ Some o) (new : Content) → HasSameRows schema t new → (after : Records) (s : Record)
    → IsPutAt records xid (Some s) after → HasTheSame (kept.ready xid o is).its s → Represents schema new w after

-- what a rollback asks for is there, and what an abort and a commit do
abbrev pub UndoIsReady : Type 0
UndoIsReady =
    (schema : Schema) (t : Content) (w : World) (records : Records) (kept : Represents schema t w records) (xid : ℕ) (o : Opened)
    (is : get w.opened xid ≡ Some o) → CanUndo t (kept.ready xid o is).its.log.inverses
    × ((sub : ℕ) → CanUndo t (inverses_since sub (kept.ready xid o is).its)) × AreKnownAll t.schema (kept.ready xid o is).its.log.inverses

-- a rollback of a subtransaction, past all that others did
abbrev pub RollbackIsKept : Type 0
RollbackIsKept =
    (schema : Schema) (t : Content) (w : World) (records : Records) (kept : Represents schema t w records) (xid : ℕ) (o : Opened)
    (is : get w.opened xid ≡ Some o) (sub : ℕ) (later : World) → GoesBack w xid o sub later → (new : Content) (after : Records) (s : Record)
    → IsPutAt records xid (Some s) after → IsRolledBack schema t new sub (kept.ready xid o is).its s → Represents schema new later after

-- an abort
abbrev pub AbortIsKept : Type 0
AbortIsKept =
    (schema : Schema) (t : Content) (w : World) (records : Records) (kept : Represents schema t w records) (xid : ℕ) (o : Opened)
    (is : get w.opened xid ≡ Some o) (later : World) → Aborts w xid later → (new : Content) (after : Records) → IsPutAt records xid None after
    → IsTakenBack schema t new (kept.ready xid o is).its → Represents schema new later after

-- a commit
abbrev pub CommitIsKept : Type 0
CommitIsKept =
    (schema : Schema) (t : Content) (w : World) (records : Records) (kept : Represents schema t w records) (xid : ℕ) (o : Opened)
    (is : get w.opened xid ≡ Some o) (info : CommitInfo) (later : World) → Commits schema w xid o info later → (new : Content) (after : Records)
    → IsPutAt records xid None after → IsReleased schema t new (kept.ready xid o is).its → Represents schema new later after

-- ---- holds

-- what the holds answer is so in the world: cells that are free there are free, and a holder of the first that another has holds one
abbrev pub HoldsTellTheWorld : Type 0
HoldsTellTheWorld =
    (schema : Schema) (w : World) (held : ℕ → List Cell) → AreHolds schema w held → (xid : ℕ) (cells : List Cell)
    → (All (IsFreeCell held xid) cells → IsFree schema w xid cells)
    × ((holder : ℕ) → IsFirstHeldBy held xid cells holder → IsHeldBy schema w xid cells holder)

-- a transaction opens and holds nothing
abbrev pub OpenIsHeld : Type 0
OpenIsHeld =
    (schema : Schema) (w : World) (held : ℕ → List Cell) → AreHolds schema w held → (xid : ℕ) → get w.opened xid ≡ None
    → AreHolds schema (opened_with w xid) held

-- a change was done or skipped, and the cells of its footprint on the own view were taken
abbrev pub TakenIsHeld : Type 0
TakenIsHeld =
    (schema : Schema) (w : World) (held : ℕ → List Cell) → AreHolds schema w held → (xid : ℕ) (o : Opened) → get w.opened xid ≡ Some o
    → (sub : ℕ) (c : change_type.Change) (new : ℕ → List Cell) → ((other : ℕ) → other ≢ xid → new other ≡ held other)
    → ((cell : Cell) → Contains (new xid) cell ↔ (Contains (held xid) cell ⊎ Contains (footprint schema (own_rows schema w xid o) c) cell))
    → AreHolds schema (done_with w xid o (Change sub c)) new

-- what leaves a transaction's work leaves what it holds: a touch, and a change that it wants
abbrev pub SameIsHeld : Type 0
SameIsHeld =
    (schema : Schema) (w : World) (held : ℕ → List Cell) → AreHolds schema w held → (xid : ℕ) (o : Opened) → get w.opened xid ≡ Some o
    → ((sub : ℕ) → AreHolds schema (done_with w xid o (Touch sub)) held)
    × ((sub : ℕ) (c : change_type.Change) (stopped : Option Stop) → AreHolds schema (record (wanting w xid o sub c) { stopped = stopped }) held)

-- one that aborts holds nothing, and nobody else's cells move
abbrev pub AbortIsHeld : Type 0
AbortIsHeld =
    (schema : Schema) (w : World) (held : ℕ → List Cell) → AreHolds schema w held → (xid : ℕ) (o : Opened) → get w.opened xid ≡ Some o
    → (new : ℕ → List Cell) → IsHeldAt held xid [] new → AreHolds schema (aborted_with w xid) new

-- nor where one commits
abbrev pub CommitIsHeld : Type 0
CommitIsHeld =
    (schema : Schema) (w : World) (held : ℕ → List Cell) → AreHolds schema w held → (xid : ℕ) (o : Opened) → get w.opened xid ≡ Some o
    → IsFine schema w → (info : CommitInfo) (new : ℕ → List Cell) → IsHeldAt held xid [] new
    → AreHolds schema (committed_with schema w xid o info) new

-- ---- holds and savepoints

-- an item whose subtransaction gets its savepoint here, if it has none, with how much is held
abbrev pub ItemKeepsMarks : Type 0
ItemKeepsMarks =
    (schema : Schema) (w : World) (xid : ℕ) (o : Opened) (r s : Record) → IsRecordOf schema w xid o r → (cells more : List Cell)
    → HasHeldMarks schema w.committed r cells → HasSameCells cells (held_cells schema w.committed (work xid o))
    → (sub : ℕ) (item : Item) → ((other : ℕ) → is_of other item ≡ (sub == other)) → (inverses : List Inverse)
    → (has : HasItem xid sub item inverses r s) → has.mark.held ≡ length cells → take (length cells) more ≡ cells → length cells ≤ length more
    → HasHeldMarks schema w.committed s more

-- a rollback lets go the cells taken since the savepoint, and the marks that are left tell what was held there
abbrev pub RollbackKeepsMarks : Type 0
RollbackKeepsMarks =
    (schema : Schema) (w : World) (xid : ℕ) (o : Opened) (r s : Record) → IsRecordOf schema w xid o r → (cells : List Cell)
    → HasHeldMarks schema w.committed r cells → (sub : ℕ) → s.survivors ≡ after_item xid r.survivors (BackTo sub)
    → s.marks ≡ before_mark sub r.marks → HasHeldMarks schema w.committed s (up_to_held (mark_at sub r.marks) cells)

-- what is held then is what the transaction's work holds
abbrev pub RollbackIsHeld : Type 0
RollbackIsHeld =
    (schema : Schema) (w : World) (held : ℕ → List Cell) → AreHolds schema w held → (xid : ℕ) (o : Opened) → get w.opened xid ≡ Some o
    → (r : Record) → IsRecordOf schema w xid o r → HasHeldMarks schema w.committed r (held xid) → (sub : ℕ) (new : ℕ → List Cell)
    → IsHeldAt held xid (up_to_held (mark_at sub r.marks) (held xid)) new → AreHolds schema (done_with w xid o (BackTo sub)) new

-- others' commits leave what the marks tell
abbrev pub CommitKeepsMarks : Type 0
CommitKeepsMarks =
    (schema : Schema) (w : World) → IsFine schema w → (xid : ℕ) (o : Opened) → get w.opened xid ≡ Some o → (other : ℕ) (p : Opened)
    → other ≢ xid → get w.opened other ≡ Some p → (r : Record) → IsRecordOf schema w other p r → (cells : List Cell)
    → HasHeldMarks schema w.committed r cells → HasHeldMarks schema (own_rows schema w xid o) r cells

-- ---- a stop, and what is read

-- the call that stops a world in which all wait leaves the store
abbrev pub StopIsKept : Type 0
StopIsKept =
    (schema : Schema) (t : Content) (w : World) (records : Records) → Represents schema t w records → (held : ℕ → List Cell) → AreHolds schema w held
    → (sent : List (ℕ × ℕ)) (waiter : ℕ) (answer : Option ℕ) (new : World) → StopsHeld schema w sent waiter answer new
    → Represents schema t new records × AreHolds schema new held

-- the row of the tables at a place is that of the live rows, in every order of the open transactions
abbrev pub RowIsLive : Type 0
RowIsLive =
    (schema : Schema) (t : Content) (w : World) (records : Records) → Represents schema t w records → (place : Place)
    → ReadsLive {E = Fault} schema w place (Ok (get t.rows place))

-- with no transaction open the tables are the commits' surviving changes, one transaction at a time in commit order
abbrev pub AloneIsCommitted : Type 0
AloneIsCommitted =
    (schema : Schema) (t : Content) (w : World) (records : Records) → Represents schema t w records → w.opened ≡ finite.empty
    → (t.rows ≡ w.committed) × (t.rows ≡ serial schema w.start (changes_in w.line))
