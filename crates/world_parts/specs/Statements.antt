-- The laws of parts, each as one statement. `src/laws.rt` names them, so that the check proves them.
use Rattle.std.specs.Prelude.{◌≡◌, ◌⊎◌, ℕ, ◌==◌, true, false, List, [], ◌∷◌, ◌++◌, Option, Some, None, Ok, map}
use Rattle.std.specs.List.{AllByRecursion}
use Rattle.std.specs.FinMap.{get}
use Rattle.model.specs.declared.change.Change as change_type
use Rattle.model.specs.declared.change.Change.TheVariants.{Wipe}
use Rattle.model.specs.declared.key.Key.{Key}
use Rattle.model.specs.declared.row.Row.{Row}
use Rattle.model.specs.declared.cell.Cell.{Cell}
use Rattle.model.specs.declared.cell.Cell.TheVariants.{Whole}
use Rattle.model.specs.declared.item.Item.{Item}
use Rattle.model.specs.declared.item.Item.TheVariants.{Change, Touch, BackTo}
use Rattle.model.specs.declared.item.CommitInfo.{CommitInfo}
use Rattle.model.specs.Rows.{Rows, Schema, IsValid}
use Rattle.model.specs.TableRows.{rows_of_table}
use Rattle.model.specs.Effect.{serial}
use Rattle.model.specs.Footprint.{held_cells, shares_cell}
use Rattle.model.specs.Survivors.{survivors}
use Rattle.world.specs.World.{Opened, World, starting, changes_in, IsHeldBy, IsFree}
use Rattle.world.specs.Steps.{Acted, IsDone, Held, Acts, Step, Reaches, opened_with, done_with, wanting, committed_with, aborted_with}
use Rattle.world.specs.Live.{IsListing, live_rows}
use Rattle.world.specs.Fine.{StillClashes, IsFine}
use Rattle.world_parts.specs.ByTable.{names_table, rows_at, change_at, changes_at, IsIn, AreOf}
use Rattle.world_parts.specs.Parts.{wanted_by, wanted_if, IsPartOf, after_tried, rested}
use Rattle.world_parts.specs.Marks.{marked_at, under, items_at, mark_for, kept_by, survivors_if, IsFirstDropped, AreKept, AreDropped, HasPart, AreMarked, CutsTo, CutsNothing}
use Rattle.world_parts.specs.Lines.{HasLine, KeepsLine, IsCommit, rows_until}
use Rattle.world_parts.specs.Reached.{PartStep, PartReaches, IsReachedByParts, HasReachedPart}
use Rattle.world_parts.specs.Led.{IsLed}
use Rattle.world_parts.specs.Sound.{IsSound, IsAlike, HasSoundPart, StopsInTable}

-- ---- rows and changes by their table

-- rows that agree in each table are the same
abbrev pub RowsByTable : Type 0
RowsByTable = (rows others : Rows) → ((table : ℕ) → rows_at table rows ≡ rows_at table others) → rows ≡ others

-- those of a table, in the order of their keys, are those of it alone
abbrev pub WalkedByTable : Type 0
WalkedByTable = (table : ℕ) (rows : Rows) → rows_of_table (rows_at table rows) table ≡ rows_of_table rows table

-- rows are valid just where those of each table are
abbrev pub ValidByTable : Type 0
ValidByTable =
    (schema : Schema) (rows : Rows)
    → (IsValid schema rows → (table : ℕ) → IsValid schema (rows_at table rows))
    × (((table : ℕ) → IsValid schema (rows_at table rows)) → IsValid schema rows)

-- the rows of a table after changes are those after the table's changes
abbrev pub SerialByTable : Type 0
SerialByTable =
    (schema : Schema) (table : ℕ) (rows : Rows) (cs : List change_type.Change)
    → rows_at table (serial schema rows cs) ≡ serial schema (rows_at table rows) (changes_at table cs)

-- of the cells of a table, changes hold those that the table's changes hold
abbrev pub HeldByTable : Type 0
HeldByTable =
    (schema : Schema) (table : ℕ) (rows : Rows) (cs : List change_type.Change) (cells : List Cell) → AreOf table cells
    → shares_cell cells (held_cells schema rows cs)
    ≡ shares_cell cells (held_cells schema (rows_at table rows) (changes_at table cs))

-- ---- parts

-- every world has a part of each table, to which the transactions' items were told, and its line
abbrev pub HasEachPart : Type 0
HasEachPart = (table : ℕ) (w : World) → (part : World) × HasPart table w part × HasLine table w part

-- a change of the table comes to in the world what it comes to in the part
abbrev pub TriedInPart : Type 0
TriedInPart =
    (schema : Schema) (table : ℕ) (w part : World) → IsPartOf table w part
    → (xid : ℕ) (o p : Opened) → get w.opened xid ≡ Some o → get part.opened xid ≡ Some p
    → (c : change_type.Change) → IsIn table c → w.stopped ≡ None
    → (sub mark : ℕ) (answer : Acted) (new : World) → Acts schema part xid p mark c (Ok answer) new
    → Acts schema w xid o sub c (Ok answer) (after_tried w xid o sub c answer)

-- no other transaction holds a cell of the table, by its part
abbrev pub IsFreeByPart : Schema → World → ℕ → ℕ → Type 0
IsFreeByPart schema w xid table = (part : World) × IsPartOf table w part × IsFree schema part xid (Whole table ∷ [])

-- a truncate is done where each of its tables is free by its part, and held where one is
abbrev pub TruncatedByParts : Type 0
TruncatedByParts =
    (schema : Schema) (w : World) (xid : ℕ) (o : Opened) → w.stopped ≡ None → (sub : ℕ) (tables : List ℕ)
    → (AllByRecursion (IsFreeByPart schema w xid) tables
    → Acts schema w xid o sub (Wipe tables) (Ok IsDone) (done_with w xid o (Change sub (Wipe tables))))
    × ((table : ℕ) (part : World) → IsPartOf table w part → names_table tables table ≡ true → (holder : ℕ)
    → IsHeldBy schema part xid (Whole table ∷ []) holder
    → Acts schema w xid o sub (Wipe tables) (Ok (Held holder)) (wanting w xid o sub (Wipe tables)))

-- what stands at a place with the work of all open transactions, by the part of its table, stands there in the world
abbrev pub LiveInPart : Type 0
LiveInPart =
    (schema : Schema) (table : ℕ) (w part : World) → IsPartOf table w part → (key : Key) (row : Option Row)
    → ((listing : List (ℕ × Opened)) → IsListing part listing → row ≡ get (live_rows schema part listing) (table, key))
    → (listing : List (ℕ × Opened)) → IsListing w listing → row ≡ get (live_rows schema w listing) (table, key)

-- a part of a part is one of the world, with its line
abbrev pub PartOfPart : Type 0
PartOfPart =
    (table : ℕ) (w part other : World) → HasPart table w part × HasLine table w part → HasPart table part other × HasLine table part other
    → HasPart table w other × HasLine table w other

-- and a part is its own
abbrev pub PartOfItself : Type 0
PartOfItself = (table : ℕ) (w part : World) → HasPart table w part → HasPart table part part

-- ---- what a part is behind each call

-- a transaction opens in the world, and in the part at any time behind that
abbrev pub PartAfterOpen : Type 0
PartAfterOpen =
    (table : ℕ) (w part : World) → HasPart table w part → (xid : ℕ)
    → (get w.opened xid ≡ None → HasPart table (opened_with w xid) part)
    × (get part.opened xid ≡ None → HasPart table w (opened_with part xid))

-- a change is tried in the parts of its tables, there as what it is in the table, under the latest mark; the others stay
abbrev pub PartAfterTry : Type 0
PartAfterTry =
    (table : ℕ) (w part : World) → HasPart table w part → (xid : ℕ) (o : Opened) → get w.opened xid ≡ Some o
    → (sub : ℕ) (c : change_type.Change) (answer : Acted)
    → ((p : Opened) (cut : change_type.Change) → get part.opened xid ≡ Some p → change_at table c ≡ cut ∷ []
    → HasPart table (after_tried w xid o sub c answer)
    (after_tried part xid p (mark_for xid sub (survivors xid o.items)) cut answer))
    × (change_at table c ≡ [] → wanted_if (get part.opened xid) ≡ [] → HasPart table (after_tried w xid o sub c answer) part)

-- of an item that changes no row a part hears that the transaction waits no more, where it waited there
abbrev pub PartAfterTouch : Type 0
PartAfterTouch =
    (table : ℕ) (w part : World) → HasPart table w part → (xid : ℕ) (o : Opened) → get w.opened xid ≡ Some o → (sub : ℕ)
    → ((p : Opened) → get part.opened xid ≡ Some p → HasPart table (done_with w xid o (Touch sub)) (rested part xid p))
    × (wanted_if (get part.opened xid) ≡ [] → HasPart table (done_with w xid o (Touch sub)) part)

-- a rollback is one in each part that it drops something of; of the others a transaction waits no more
abbrev pub PartAfterRollback : Type 0
PartAfterRollback =
    (table : ℕ) (w part : World) → HasPart table w part → (xid : ℕ) (o : Opened) → get w.opened xid ≡ Some o → (sub : ℕ)
    → ((p : Opened) (mark : ℕ) → get part.opened xid ≡ Some p → CutsTo table xid sub (survivors xid o.items) mark
    → HasPart table (done_with w xid o (BackTo sub)) (done_with part xid p (BackTo mark)))
    × (CutsNothing table xid sub (survivors xid o.items)
    → ((p : Opened) → get part.opened xid ≡ Some p → HasPart table (done_with w xid o (BackTo sub)) (rested part xid p))
    × (wanted_if (get part.opened xid) ≡ [] → HasPart table (done_with w xid o (BackTo sub)) part))

-- a commit comes in the parts in which its transaction did something; the others stay
abbrev pub PartAfterCommit : Type 0
PartAfterCommit =
    (schema : Schema) (table : ℕ) (w part : World) → HasPart table w part
    → (xid : ℕ) (o : Opened) → get w.opened xid ≡ Some o → (info : CommitInfo)
    → ((p : Opened) → get part.opened xid ≡ Some p
    → HasPart table (committed_with schema w xid o info) (committed_with schema part xid p info))
    × (survivors_if xid (get part.opened xid) ≡ [] → wanted_if (get part.opened xid) ≡ []
    → HasPart table (committed_with schema w xid o info) part)

-- so does an abort
abbrev pub PartAfterAbort : Type 0
PartAfterAbort =
    (table : ℕ) (w part : World) → HasPart table w part → (xid : ℕ)
    → HasPart table (aborted_with w xid) (aborted_with part xid)
    × (survivors_if xid (get part.opened xid) ≡ [] → wanted_if (get part.opened xid) ≡ []
    → HasPart table (aborted_with w xid) part)

-- ---- the line of a part

-- a world and its part begin with no commit
abbrev pub LineBegins : Type 0
LineBegins =
    (table : ℕ) (start : Rows) → HasLine table (starting start) (starting (rows_at table start))

-- a part has it behind a commit that it is told, and stays where the transaction did nothing there
abbrev pub LineAfterCommit : Type 0
LineAfterCommit =
    (schema : Schema) (table : ℕ) (w part : World) → HasPart table w part → HasLine table w part
    → (xid : ℕ) (o : Opened) → get w.opened xid ≡ Some o → (info : CommitInfo)
    → ((p : Opened) → get part.opened xid ≡ Some p
    → HasLine table (committed_with schema w xid o info) (committed_with schema part xid p info))
    × (survivors_if xid (get part.opened xid) ≡ []
    → HasLine table (committed_with schema w xid o info) part)

-- each other call leaves start and commits
abbrev pub LineAfterStep : Type 0
LineAfterStep =
    (schema : Schema) (w new : World) → Step schema w new → KeepsLine w new ⊎ IsCommit schema w new

-- where a world and its part keep both, the part has the line still
abbrev pub LineStays : Type 0
LineStays =
    (table : ℕ) (w new part other : World) → KeepsLine w new → KeepsLine part other
    → HasLine table w part → HasLine table new other

-- the rows of the table after the commits up to a position are the part's after its own up to there
abbrev pub RowsUntilInPart : Type 0
RowsUntilInPart =
    (schema : Schema) (table : ℕ) (w part : World) → HasLine table w part → (position : ℕ)
    → rows_at table (rows_until schema part position) ≡ rows_at table (rows_until schema w position)

-- ---- all calls

-- each part of a world that calls lead to is reached by what they are in its table
abbrev pub ReachedByParts : Type 0
ReachedByParts =
    (schema : Schema) (start : Rows) (w : World) → Reaches schema (starting start) w → IsReachedByParts schema start w

-- so it is where each part is reached by calls of its own
abbrev pub ReachedOfEach : Type 0
ReachedOfEach =
    (schema : Schema) (start : Rows) (w : World) → ((table : ℕ) → HasReachedPart schema start w table)
    → IsReachedByParts schema start w

-- Whatever world has the part, with the transaction open so: once this has become of it, the other is its part.
abbrev pub Behind : ℕ → World → ℕ → Opened → (World → World) → World → Type 0
Behind table part xid o becomes new =
    (w : World) → HasPart table w part → HasLine table w part → get w.opened xid ≡ Some o
    → HasPart table (becomes w) new × HasLine table (becomes w) new

-- The part, which is its own, has of the transaction what was told to the table of one that is open so.
pub record HasOpen (table : ℕ) (part : World) (xid : ℕ) (o : Opened) : Type 0 where
  pub own : HasPart table part part
  pub starts : part.start ≡ rows_at table part.start
  pub told : survivors_if xid (get part.opened xid) ≡ items_at table xid (survivors xid o.items)
  pub wants : wanted_if (get part.opened xid) ≡ changes_at table (wanted_by o.wants)

-- ---- a world that is made of parts

-- its committed rows are those after its commits
abbrev pub IsSerial : Schema → World → Type 0
IsSerial schema w = w.committed ≡ serial schema w.start (changes_in w.line)

-- A part that has nothing of another table: its commits are those that the world's line has in the table, and of each
-- transaction of the world it was told just its items there, and has what it wants there; of no other it has anything.
pub record IsMadeOf (schema : Schema) (table : ℕ) (w part : World) : Type 0 where
  pub own : HasPart table part part
  pub serial_commits : IsSerial schema part
  pub line : HasLine table w part
  pub told : AreMarked table w part
  pub wanted : (xid : ℕ) → wanted_if (get part.opened xid) ≡ changes_at table (wanted_if (get w.opened xid))

-- such a part, to which parts of calls lead
abbrev pub HasMadePart : Schema → Rows → World → ℕ → Type 0
HasMadePart schema start w table =
    (part : World) × IsMadeOf schema table w part × PartReaches schema table (starting (rows_at table start)) part

-- a world is reached by parts where it has such a part of each table
abbrev pub MadeOfParts : Type 0
MadeOfParts =
    (schema : Schema) (start : Rows) (w : World) → IsSerial schema w → ((table : ℕ) → HasMadePart schema start w table)
    → IsReachedByParts schema start w

-- a truncate of several leads on in the part of one, where nobody else holds anything of that, whatever is in the others
abbrev pub TruncateLeads : Type 0
TruncateLeads =
    (schema : Schema) (table : ℕ) (part new : World) (xid : ℕ) (o : Opened) → HasOpen table part xid o → (sub : ℕ) (tables : List ℕ)
    → IsFree schema part xid (Whole table ∷ []) → Behind table part xid o (λ w. done_with w xid o (Change sub (Wipe tables))) new
    → PartStep schema table part new

-- and where its transaction waits with it, since another is in the way in another table
abbrev pub WaitingLeads : Type 0
WaitingLeads =
    (schema : Schema) (table : ℕ) (part new : World) (xid : ℕ) (o : Opened) → HasOpen table part xid o → (sub : ℕ) (tables : List ℕ)
    → (at : ℕ) → (at == table) ≡ false → names_table tables at ≡ true
    → Behind table part xid o (λ w. wanting w xid o sub (Wipe tables)) new → PartStep schema table part new

-- ---- savepoints

-- a change is told to its tables under the latest mark; to others nothing, and nothing of an item that changes no row
abbrev pub ChangesAreTold : Type 0
ChangesAreTold =
    (table top sub : ℕ) (items mine : List Item) → survivors top mine ≡ items_at table top (survivors top items)
    → ((c cut : change_type.Change) → change_at table c ≡ cut ∷ []
    → survivors top (mine ++ Change (mark_for top sub (survivors top items)) cut ∷ [])
    ≡ items_at table top (survivors top (items ++ Change sub c ∷ [])))
    × ((c : change_type.Change) → change_at table c ≡ []
    → survivors top mine ≡ items_at table top (survivors top (items ++ Change sub c ∷ [])))
    × (survivors top mine ≡ items_at table top (survivors top (items ++ Touch sub ∷ [])))

-- a rollback is one in the part to the first of its marks that is dropped, and none where no mark of it is
abbrev pub RollbackByTable : Type 0
RollbackByTable =
    (table top sub : ℕ) (items mine : List Item) → (sub == top) ≡ false
    → survivors top mine ≡ items_at table top (survivors top items)
    → ((mark : ℕ) → IsFirstDropped top (kept_by top sub (survivors top items)) mark (marked_at table (under top [] (survivors top items)))
    → survivors top (mine ++ BackTo mark ∷ []) ≡ items_at table top (survivors top (items ++ BackTo sub ∷ [])))
    × (AreKept top (kept_by top sub (survivors top items)) (marked_at table (under top [] (survivors top items)))
    → survivors top mine ≡ items_at table top (survivors top (items ++ BackTo sub ∷ [])))

-- so is one to each of the marks that are dropped, in any order
abbrev pub RollbackByMarks : Type 0
RollbackByMarks =
    (table top sub : ℕ) (items mine : List Item) → (sub == top) ≡ false
    → survivors top mine ≡ items_at table top (survivors top items)
    → (marks : List ℕ) → AreDropped top sub (survivors top items) marks
    → survivors top (mine ++ map BackTo marks) ≡ items_at table top (survivors top (items ++ BackTo sub ∷ []))

-- ---- what every world keeps that calls reach

-- a part that begins with its committed rows keeps it where its world does
abbrev pub PartIsFine : Type 0
PartIsFine =
    (schema : Schema) (table : ℕ) (w part : World) → IsPartOf table w part → IsFine schema w
    → part.start ≡ part.committed → part.line ≡ [] → StillClashes schema part → IsFine schema part

-- the part of the table, which keeps it
abbrev pub HasFinePart : Schema → World → ℕ → Type 0
HasFinePart schema w table = (part : World) × IsPartOf table w part × IsFine schema part

-- and a world does where each of its parts does
abbrev pub FineByParts : Type 0
FineByParts =
    (schema : Schema) (w : World) → ((table : ℕ) → HasFinePart schema w table) → IsValid schema w.start
    → w.committed ≡ serial schema w.start (changes_in w.line) → StillClashes schema w → IsFine schema w

-- every world that calls reach from valid rows is sound
abbrev pub SoundReached : Type 0
SoundReached =
    (schema : Schema) (rows : Rows) → IsValid schema rows → (w : World) → Reaches schema (starting rows) w → IsSound schema w

-- and so is one that has the same start, commits and stop, and of open transactions the same that survives
abbrev pub SoundAlike : Type 0
SoundAlike = (schema : Schema) (w v : World) → IsAlike w v → IsSound schema w → IsSound schema v

-- a world is sound of which each part is, where what stopped it was of one table
abbrev pub SoundByParts : Type 0
SoundByParts =
    (schema : Schema) (w : World) → ((table : ℕ) → HasSoundPart schema w table) → StopsInTable w → IsSound schema w

-- a run may have each world that calls reach
abbrev pub LedReached : Type 0
LedReached =
    (schema : Schema) (start : Rows) (w : World) → ∥ Reaches schema (starting start) w ∥₁ → IsLed schema start w

-- and behind a call the world that it leads to
abbrev pub LedByStep : Type 0
LedByStep =
    (schema : Schema) (start : Rows) (w new : World) → IsLed schema start w → Step schema w new → IsLed schema start new

-- and so may a run have a world that is known by its parts
abbrev pub LedByParts : Type 0
LedByParts =
    (schema : Schema) (start : Rows) (w : World) → w.start ≡ start → ∥ IsReachedByParts schema start w ∥₁
    → (IsValid schema start → ∥ ((table : ℕ) → HasSoundPart schema w table) ∥₁) → StopsInTable w → IsLed schema start w
