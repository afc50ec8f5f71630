-- What a store reads, and what its reads rest on, each as one statement. `src/read_laws.rt` names them, so that the check
-- proves them.
use Rattle.std.specs.Prelude.{◌≡◌, ◌⊎◌, ◌↔◌, ◌<◌, ◌≤◌, All, ℕ, List, [], ◌∷◌, Option, Some, None, Ok, length, take, map, slice_get, true, false, ◌≢◌}
use Rattle.std.specs.List.{Contains}
use Rattle.std.specs.Map.{keys_of}
use Rattle.std.specs.FinMap.{get}
use Rattle.model.specs.declared.key.Key.{Key}
use Rattle.model.specs.declared.row.Row.{Row as RecordRow}
use Rattle.model.specs.declared.cell.Cell.{Cell}
use Rattle.model.specs.declared.cell.Cell.TheVariants.{Row, Whole}
use Rattle.model.specs.declared.change.Change as change_type
use Rattle.model.specs.declared.item.Item.TheVariants.{Change, Touch, BackTo}
use Rattle.model.specs.declared.item.CommitInfo.{CommitInfo}
use Rattle.model.specs.Rows.{Rows, Schema}
use Rattle.model.specs.Effect.{Skip, outcome, serial}
use Rattle.model.specs.Footprint.{footprint, shares_cell}
use Rattle.model.specs.Named.{NamesTables}
use Rattle.model.specs.Cells.{table_of}
use Rattle.savepoint.specs.declared.mark.Mark.{Mark}
use Rattle.savepoint.specs.Savepoints.{mark_at}
use Rattle.savepoint.specs.Record.{Record}
use Rattle.indexes.specs.Content.{Content}
use Rattle.change.specs.declared.inverse.Inverse.{Inverse}
use Rattle.change.specs.Inverse.{row_by_inverse}
use Rattle.world.specs.World.{Opened, Past, Stop, ByHold, World, starting, entry_of, changes_in}
use Rattle.world.specs.Settled.{WaitsFor}
use Rattle.world.specs.Steps.{Fault, ReadsCommitted, StopsHeld, opened_with, done_with, wanting, committed_with, aborted_with}
use Rattle.live_tables.specs.KeptRecords.{Represents, IsPutAt}
use Rattle.live_tables.specs.Held.{AreHolds, HasHeldMarks, IsHeldAt, up_to_held}
use Rattle.live_tables.specs.CallResults.{IsApplied, IsRolledBack, HasItem, HasTheSame}
use Rattle.live_tables.specs.Statements.{IsFreeLive}
use Rattle.live_tables.specs.Journal.{rows_after}
use Rattle.live_tables.specs.Waits.{IsOneHeldBy, WaitsByHolds, WaitsForNobody, IsSettledLive, IsNotStuck}
use Rattle.live_tables.specs.declared.before_image.BeforeImage.{BeforeImage}
use Rattle.live_tables.specs.declared.before_image.BeforeImage.TheVariants.{Row as BeforeImageRow, Wiped}
use Rattle.live_tables.specs.BeforeImages.{HasBeforeImages, BeforeImageFits, HasNoRowBeside, cells_of_each, up_to_before_image, IsStoodAt, TakesBeforeImages}
use Rattle.keyholds.specs.Holds.{IsFreeCell}

-- ---- the committed row at a place

-- Nobody holds the place, nor its table as a whole: it is the live one.
abbrev pub FreeRowIsCommitted : Type 0
FreeRowIsCommitted =
    (schema : Schema) (t : Content) (w : World) (records : ℕ → Option Record) → Represents schema t w records → (held : ℕ → List Cell) → AreHolds schema w held
    → (table : ℕ) (key : Key) → ((xid : ℕ) → ¬ Contains (held xid) (Row table key)) → ((xid : ℕ) → ¬ Contains (held xid) (Whole table))
    → ReadsCommitted {E = Fault} w (table, key) (Ok (get t.rows (table, key)))

-- A row lies beside the place: it is this one.
abbrev pub HeldRowIsCommitted : Type 0
HeldRowIsCommitted =
    (schema : Schema) (t : Content) (w : World) (records : ℕ → Option Record) → Represents schema t w records
    → (held : ℕ → List (Cell × BeforeImage)) → AreHolds schema w (cells_of_each held) → HasBeforeImages w records held
    → (xid table : ℕ) (key : Key) (row : Option RecordRow) → Contains (held xid) (Row table key, BeforeImageRow row)
    → ReadsCommitted {E = Fault} w (table, key) (Ok row)

-- The table is held as a whole, and nobody holds the place or nothing lies beside it: it is the row that the inverse with the
-- table's number has there.
abbrev pub WipedRowIsCommitted : Type 0
WipedRowIsCommitted =
    (schema : Schema) (t : Content) (w : World) (records : ℕ → Option Record) → Represents schema t w records
    → (held : ℕ → List (Cell × BeforeImage)) → AreHolds schema w (cells_of_each held) → HasBeforeImages w records held
    → (xid table : ℕ) (key : Key) (count : ℕ) → Contains (held xid) (Whole table, Wiped count)
    → HasNoRowBeside held table key → (r : Record) → records xid ≡ Some r
    → (i : Inverse) × (slice_get r.log.inverses count ≡ Some i) × ReadsCommitted {E = Fault} w (table, key) (Ok (row_by_inverse i (table, key)))

-- What lies beside each cell fits it.
abbrev pub EachFits : Type 0
EachFits =
    (schema : Schema) (t : Content) (w : World) (records : ℕ → Option Record) → Represents schema t w records
    → (held : ℕ → List (Cell × BeforeImage)) → AreHolds schema w (cells_of_each held) → HasBeforeImages w records held → BeforeImageFits held

-- ---- what lies beside the cells that are held, through each call

-- at first no transaction is open
abbrev pub StartKeepsBeforeImages : Type 0
StartKeepsBeforeImages = (rows : Rows) (records : ℕ → Option Record) (held : ℕ → List (Cell × BeforeImage)) → HasBeforeImages (starting rows) records held

-- a transaction opens and holds nothing
abbrev pub OpenKeepsBeforeImages : Type 0
OpenKeepsBeforeImages =
    (schema : Schema) (w : World) (records : ℕ → Option Record) (held : ℕ → List (Cell × BeforeImage)) → AreHolds schema w (cells_of_each held)
    → HasBeforeImages w records held → (xid : ℕ) → get w.opened xid ≡ None → (after : ℕ → Option Record) (r : Record) → IsPutAt records xid (Some r) after
    → HasBeforeImages (opened_with w xid) after held

-- a change that came out so is an item with these inverses, and its cells are held too: the places with the live rows,
-- which are the committed ones
abbrev pub ChangeKeepsBeforeImages : List Inverse → (Schema → Content → change_type.Change → Type 0) → Type 0
ChangeKeepsBeforeImages inverses CameOut =
    (schema : Schema) (t : Content) (w : World) (records : ℕ → Option Record) (kept : Represents schema t w records)
    (held : ℕ → List (Cell × BeforeImage)) → AreHolds schema w (cells_of_each held) → HasBeforeImages w records held
    → (xid : ℕ) (o : Opened) (is : get w.opened xid ≡ Some o)
    → HasHeldMarks schema w.committed (kept.ready xid o is).its (keys_of (held xid))
    → (sub : ℕ) (c : change_type.Change) → IsFreeLive schema t w xid c → CameOut schema t c
    → (after : ℕ → Option Record) (s : Record) → IsPutAt records xid (Some s) after
    → (has : HasItem xid sub (Change sub c) inverses (kept.ready xid o is).its s) → has.mark.held ≡ length (held xid)
    → (later : ℕ → List (Cell × BeforeImage))
    → TakesBeforeImages t.rows (footprint schema t.rows c) (length (kept.ready xid o is).its.log.inverses) held xid later
    → HasBeforeImages (done_with w xid o (Change sub c)) after later

-- one that is done
abbrev pub DoneKeepsBeforeImages : Type 0
DoneKeepsBeforeImages = (new : Content) (i : Inverse) → ChangeKeepsBeforeImages (i ∷ []) (λ schema t c. IsApplied schema t new c i)

-- one that is skipped
abbrev pub SkipKeepsBeforeImages : Type 0
SkipKeepsBeforeImages = ChangeKeepsBeforeImages [] (λ schema t c. outcome schema t.rows c ≡ Skip)

-- a touch
abbrev pub TouchKeepsBeforeImages : Type 0
TouchKeepsBeforeImages =
    (schema : Schema) (t : Content) (w : World) (records : ℕ → Option Record) (kept : Represents schema t w records)
    (held : ℕ → List (Cell × BeforeImage)) → HasBeforeImages w records held → (xid : ℕ) (o : Opened) (is : get w.opened xid ≡ Some o)
    → HasHeldMarks schema w.committed (kept.ready xid o is).its (keys_of (held xid)) → (sub : ℕ)
    → (after : ℕ → Option Record) (s : Record) → IsPutAt records xid (Some s) after
    → (has : HasItem xid sub (Touch sub) [] (kept.ready xid o is).its s) → has.mark.held ≡ length (held xid)
    → HasBeforeImages (done_with w xid o (Touch sub)) after held

-- a call that is refused, and a change that is wanted
abbrev pub SameKeepsBeforeImages : Type 0
SameKeepsBeforeImages =
    (schema : Schema) (t : Content) (w : World) (records : ℕ → Option Record) (kept : Represents schema t w records)
    (held : ℕ → List (Cell × BeforeImage)) → HasBeforeImages w records held → (xid : ℕ) (o : Opened) (is : get w.opened xid ≡ Some o)
    → (after : ℕ → Option Record) (s : Record) → IsPutAt records xid (Some s) after → HasTheSame (kept.ready xid o is).its s
    → HasBeforeImages w after held
    × ((sub : ℕ) (c : change_type.Change) (stopped : Option Stop) → HasBeforeImages (record (wanting w xid o sub c) { stopped = stopped }) after held)

-- a rollback lets go the cells taken since the savepoint
abbrev pub RollbackKeepsBeforeImages : Type 0
RollbackKeepsBeforeImages =
    (schema : Schema) (t : Content) (w : World) (records : ℕ → Option Record) (kept : Represents schema t w records)
    (held : ℕ → List (Cell × BeforeImage)) → HasBeforeImages w records held → (xid : ℕ) (o : Opened) (is : get w.opened xid ≡ Some o)
    → (sub : ℕ) (new : Content) (after : ℕ → Option Record) (s : Record) → IsPutAt records xid (Some s) after
    → IsRolledBack schema t new sub (kept.ready xid o is).its s → (later : ℕ → List (Cell × BeforeImage))
    → IsStoodAt held xid (up_to_before_image (mark_at sub (kept.ready xid o is).its.marks) (held xid)) later
    → HasBeforeImages (done_with w xid o (BackTo sub)) after later

-- an abort
abbrev pub AbortKeepsBeforeImages : Type 0
AbortKeepsBeforeImages =
    (w : World) (records : ℕ → Option Record) (held : ℕ → List (Cell × BeforeImage)) → HasBeforeImages w records held → (xid : ℕ)
    → (after : ℕ → Option Record) → IsPutAt records xid None after → (later : ℕ → List (Cell × BeforeImage)) → IsStoodAt held xid [] later
    → HasBeforeImages (aborted_with w xid) after later

-- a commit leaves what the others hold
abbrev pub CommitKeepsBeforeImages : Type 0
CommitKeepsBeforeImages =
    (schema : Schema) (t : Content) (w : World) (records : ℕ → Option Record) → Represents schema t w records
    → (held : ℕ → List (Cell × BeforeImage)) → AreHolds schema w (cells_of_each held) → HasBeforeImages w records held
    → (xid : ℕ) (o : Opened) → get w.opened xid ≡ Some o → (info : CommitInfo)
    → (after : ℕ → Option Record) → IsPutAt records xid None after → (later : ℕ → List (Cell × BeforeImage)) → IsStoodAt held xid [] later
    → HasBeforeImages (committed_with schema w xid o info) after later

-- the call that stops a world in which all wait
abbrev pub StopKeepsBeforeImages : Type 0
StopKeepsBeforeImages =
    (schema : Schema) (w : World) (records : ℕ → Option Record) (held : ℕ → List (Cell × BeforeImage)) → HasBeforeImages w records held
    → (sent : List (ℕ × ℕ)) (waiter : ℕ) (answer : Option ℕ) (new : World) → StopsHeld schema w sent waiter answer new
    → HasBeforeImages new records held

-- ---- who waits for whom

-- An open transaction that waits by the tables and the holds waits so in the world.
abbrev pub WaitsLiveTells : Type 0
WaitsLiveTells =
    (schema : Schema) (t : Content) (w : World) (records : ℕ → Option Record) → Represents schema t w records → (held : ℕ → List Cell) → AreHolds schema w held
    → (xid : ℕ) (o : Opened) → get w.opened xid ≡ Some o → (holder : ℕ) → WaitsByHolds schema t.rows held xid o holder → WaitsFor schema w xid o holder

-- One that waits for nobody by them waits for nobody.
abbrev pub PassesLiveTells : Type 0
PassesLiveTells =
    (schema : Schema) (t : Content) (w : World) (records : ℕ → Option Record) → Represents schema t w records → (held : ℕ → List Cell) → AreHolds schema w held
    → (xid : ℕ) (o : Opened) → get w.opened xid ≡ Some o → WaitsForNobody schema t.rows held xid o → (holder : ℕ) → ¬ (WaitsFor schema w xid o holder)

-- And one that waits in the world waits by them, perhaps for another.
abbrev pub WaitingIsLive : Type 0
WaitingIsLive =
    (schema : Schema) (t : Content) (w : World) (records : ℕ → Option Record) → Represents schema t w records → (held : ℕ → List Cell) → AreHolds schema w held
    → (xid : ℕ) (o : Opened) → get w.opened xid ≡ Some o → (holder : ℕ) → WaitsFor schema w xid o holder
    → (other : ℕ) × WaitsByHolds schema t.rows held xid o other

-- So the call that stops a world answers a holder by the tables and the holds alone,
abbrev pub StopIsFound : Type 0
StopIsFound =
    (schema : Schema) (t : Content) (w : World) (records : ℕ → Option Record) → Represents schema t w records → (held : ℕ → List Cell) → AreHolds schema w held
    → (sent : List (ℕ × ℕ)) (waiter : ℕ) (o : Opened) → get w.opened waiter ≡ Some o → (holder : ℕ)
    → IsSettledLive schema t.rows held w sent → WaitsByHolds schema t.rows held waiter o holder
    → StopsHeld schema w sent waiter (Some holder) (record w { stopped = Some (ByHold waiter holder) })

-- and so it answers that not all is settled.
abbrev pub StopIsRefused : Type 0
StopIsRefused =
    (schema : Schema) (t : Content) (w : World) (records : ℕ → Option Record) → Represents schema t w records → (held : ℕ → List Cell) → AreHolds schema w held
    → (sent : List (ℕ × ℕ)) (waiter : ℕ) → IsNotStuck schema t.rows held w sent waiter → StopsHeld schema w sent waiter None w

-- ---- the rows after entries of the journal

-- The rows after entries are those after all their changes, one after another.
abbrev pub EntriesAreSerial : Type 0
EntriesAreSerial = (schema : Schema) (rows : Rows) (line : List Past) → rows_after schema rows (map entry_of line) ≡ serial schema rows (changes_in line)

-- ---- holds with what lies beside them, as cells alone

-- The cells alone of what is held are those that the laws of holds ask for: once a change's cells are taken, after a rollback,
-- and once a transaction is gone.
pub record BeforeImageIsHeld : Type 0 where
  pub taken : (live : Rows) (cells : List Cell) (count : ℕ) (held : ℕ → List (Cell × BeforeImage)) (xid : ℕ) (new : ℕ → List (Cell × BeforeImage))
      → TakesBeforeImages live cells count held xid new → (cell : Cell)
      → Contains (keys_of (new xid)) cell ↔ (Contains (keys_of (held xid)) cell ⊎ Contains cells cell)
  pub front : (live : Rows) (cells : List Cell) (count : ℕ) (held : ℕ → List (Cell × BeforeImage)) (xid : ℕ) (new : ℕ → List (Cell × BeforeImage))
      → TakesBeforeImages live cells count held xid new
      → (take (length (keys_of (held xid))) (keys_of (new xid)) ≡ keys_of (held xid)) × (length (keys_of (held xid)) ≤ length (keys_of (new xid)))
  pub back : (held : ℕ → List (Cell × BeforeImage)) (xid : ℕ) (mark : Option Mark) (new : ℕ → List (Cell × BeforeImage))
      → IsStoodAt held xid (up_to_before_image mark (held xid)) new
      → IsHeldAt (cells_of_each held) xid (up_to_held mark (keys_of (held xid))) (cells_of_each new)
  pub gone : (held : ℕ → List (Cell × BeforeImage)) (xid : ℕ) (new : ℕ → List (Cell × BeforeImage)) → IsStoodAt held xid [] new
      → IsHeldAt (cells_of_each held) xid [] (cells_of_each new)

-- The cells of a change lie in the tables that it names.
abbrev pub CellsAreKnown : Type 0
CellsAreKnown =
    (schema : Schema) (rows : Rows) (c : change_type.Change) → NamesTables (length schema) c
    → All (λ (cell : Cell). table_of cell < length schema) (footprint schema rows c)

-- ---- who waits, by the cells that two lists share

-- Another open transaction with a cell that one of these overlaps has one of them; and where no other open one has, all are free.
abbrev pub SharedIsHeld : Type 0
SharedIsHeld =
    (schema : Schema) (w : World) (held : ℕ → List Cell) → AreHolds schema w held → (xid : ℕ) (cells : List Cell)
    → ((holder : ℕ) → holder ≢ xid → shares_cell cells (held holder) ≡ true → IsOneHeldBy held xid cells holder)
    × (((other : ℕ) (o : Opened) → other ≢ xid → get w.opened other ≡ Some o → shares_cell cells (held other) ≡ false) → All (IsFreeCell held xid) cells)
