-- The laws of worlds and calls, each as one statement. `src/laws.rt` names them, so that the check proves them.
use Rattle.std.specs.Prelude.{◌≡◌, ◌≢◌, ℕ, List, [], ◌∷◌, ◌++◌, Some, Result, Ok, flat_map, true, false}
use Rattle.std.specs.FinMap as finite
use Rattle.std.specs.FinMap.{get, entries}
use Rattle.model.specs.declared.change.Change as change_type
use Rattle.model.specs.declared.key.Key.{Key}
use Rattle.model.specs.declared.cell.Cell.{Cell}
use Rattle.model.specs.declared.cell.Cell.TheVariants.{Row}
use Rattle.model.specs.declared.item.Item.TheVariants.{Change}
use Rattle.model.specs.Cells.{overlaps}
use Rattle.model.specs.CellContents.{SameAt}
use Rattle.std.specs.List.{list_any}
use Rattle.model.specs.declared.item.CommitInfo.{CommitInfo}
use Rattle.model.specs.Rows.{Rows, Schema, IsValid}
use Rattle.model.specs.Effect.{ClashCause, Clashes, outcome, effect, inverse, serial, inverses, all_back}
use Rattle.model.specs.Footprint.{looked_up, footprint, held_cells}
use Rattle.world.specs.World.{Opened, Past, ByClash, World, OpenOnes, starting, work, changes_in, own_rows, holds, IsFree}
use Rattle.model.specs.Accepted.{AreAccepted}
use Rattle.world.specs.Live.{IsListing, works, live_rows, IsLive}
use Rattle.world.specs.Steps.{Acted, IsDone, IsSkipped, Held, Clashed, Fault, Opens, Acts, Touches, GoesBack, Commits, Aborts, done_with, Step, Reaches}

-- Calls lead to the world from these rows, which are valid.
abbrev pub IsReached : Schema → Rows → World → Type 0
IsReached schema start w = IsValid schema start × Reaches schema (starting start) w

-- ---- listings and views

-- an open transaction sees the same whatever others are open
abbrev pub SeesNoOthers : Type 0
SeesNoOthers =
    (schema : Schema) (w : World) (opened : OpenOnes) (xid : ℕ) (o : Opened)
    → own_rows schema (record w { opened = opened }) xid o ≡ own_rows schema w xid o

-- the open transactions can be listed, and two neighbours of a listing can change places
abbrev pub ListedInAnyOrder : Type 0
ListedInAnyOrder =
    (w : World) → IsListing w (entries w.opened)
    × ((listing more : List (ℕ × Opened)) (t other : ℕ × Opened)
    → IsListing w (listing ++ t ∷ other ∷ more) → IsListing w (listing ++ other ∷ t ∷ more))

-- ---- every world that is reached

-- every listing gives the same live rows
abbrev pub OneLiveState : Type 0
OneLiveState =
    (schema : Schema) (start : Rows) (w : World) → IsReached schema start w → (listing other : List (ℕ × Opened))
    → IsListing w listing → IsListing w other
    → live_rows schema w listing ≡ live_rows schema w other

-- they are valid
abbrev pub LiveIsValid : Type 0
LiveIsValid =
    (schema : Schema) (start : Rows) (w : World) → IsReached schema start w → (rows : Rows) → IsLive schema w rows
    → IsValid schema rows

-- no change clashes on the way to them
abbrev pub NoLiveChangeClashes : Type 0
NoLiveChangeClashes =
    (schema : Schema) (start : Rows) (w : World) → IsReached schema start w → (listing : List (ℕ × Opened))
    → IsListing w listing
    → AreAccepted schema w.committed (flat_map (λ (cs : List change_type.Change). cs) (works listing))

-- the committed rows are the commits' changes, one after another in commit order
abbrev pub CommittedIsSerial : Type 0
CommittedIsSerial =
    (schema : Schema) (start : Rows) (w : World) → IsReached schema start w
    → (w.start ≡ start) × (w.committed ≡ serial schema start (changes_in w.line))

-- with no transaction open the live rows are these
abbrev pub AloneIsSerial : Type 0
AloneIsSerial =
    (schema : Schema) (start : Rows) (w : World) → IsReached schema start w → w.opened ≡ finite.empty → (rows : Rows)
    → IsLive schema w rows
    → (rows ≡ w.committed) × (rows ≡ serial schema start (changes_in w.line))

-- what clashed and was noted clashes still, and meets no cell of another, while its transaction wants it
abbrev pub NotedClashStands : Type 0
NotedClashStands =
    (schema : Schema) (start : Rows) (w : World) → IsReached schema start w
    → (xid : ℕ) (c : change_type.Change) (cause : ClashCause) → w.stopped ≡ Some (ByClash xid c cause)
    → (o : Opened) (sub : ℕ) → get w.opened xid ≡ Some o → o.wants ≡ Some (sub, c)
    → IsFree schema w xid (footprint schema (own_rows schema w xid o) c) ×
    (outcome schema (own_rows schema w xid o) c ≡ Clashes cause)

-- ---- a change on the live rows

-- where the looked-up row is free of others, its footprint there is that on its transaction's view
abbrev pub FootprintOnLive : Type 0
FootprintOnLive =
    (schema : Schema) (start : Rows) (w : World) → IsReached schema start w → (rows : Rows) → IsLive schema w rows
    → (xid : ℕ) (o : Opened) → get w.opened xid ≡ Some o → (c : change_type.Change) → IsFree schema w xid (looked_up c)
    → footprint schema rows c ≡ footprint schema (own_rows schema w xid o) c

-- where all of its footprint is free, so are its outcome and its inverse
abbrev pub OutcomeOnLive : Type 0
OutcomeOnLive =
    (schema : Schema) (start : Rows) (w : World) → IsReached schema start w → (rows : Rows) → IsLive schema w rows
    → (xid : ℕ) (o : Opened) → get w.opened xid ≡ Some o → (c : change_type.Change)
    → IsFree schema w xid (footprint schema (own_rows schema w xid o) c)
    → (outcome schema rows c ≡ outcome schema (own_rows schema w xid o) c)
    × (inverse schema rows c ≡ inverse schema (own_rows schema w xid o) c)

-- ---- what a transaction holds, and what takes its changes back, after each call

-- one more change: its footprint and its inverse come last
abbrev pub DoneComesLast : Type 0
DoneComesLast =
    (schema : Schema) (w new : World) (xid : ℕ) (o after : Opened) (sub : ℕ) (c : change_type.Change)
    → new ≡ done_with w xid o (Change sub c) → get new.opened xid ≡ Some after
    → (work xid after ≡ work xid o ++ c ∷ [])
    × (holds schema new xid after ≡ holds schema w xid o ++ footprint schema (own_rows schema w xid o) c)
    × (inverses schema new.committed (work xid after)
    ≡ inverses schema w.committed (work xid o) ++ inverse schema (own_rows schema w xid o) c ∷ [])

-- a rollback leaves a beginning of its changes
abbrev pub RollbackLeavesBeginning : Type 0
RollbackLeavesBeginning =
    (w new : World) (xid : ℕ) (o after : Opened) (sub : ℕ) → GoesBack w xid o sub new → get new.opened xid ≡ Some after
    → (gone : List change_type.Change) × (work xid o ≡ work xid after ++ gone)

-- and with it beginnings of what it holds and of what takes them back
abbrev pub RollbackKeepsTheRest : Type 0
RollbackKeepsTheRest =
    (schema : Schema) (w new : World) (xid : ℕ) (o after : Opened) (sub : ℕ) → GoesBack w xid o sub new
    → get new.opened xid ≡ Some after
    → (gone : List change_type.Change) → work xid o ≡ work xid after ++ gone
    → (holds schema w xid o ≡ holds schema new xid after ++ held_cells schema (own_rows schema new xid after) gone)
    × (inverses schema w.committed (work xid o)
    ≡ inverses schema new.committed (work xid after) ++ inverses schema (own_rows schema new xid after) gone)

-- ---- the live rows after each call

-- an open leaves them
abbrev pub LiveAfterOpen : Type 0
LiveAfterOpen =
    (schema : Schema) (start : Rows) (w new : World) → IsReached schema start w → (rows : Rows) → IsLive schema w rows
    → (xid : ℕ) (answer : Result (Unit {0}) Fault) → Opens w xid answer new → IsLive schema new rows

-- a change that is done has its effect on them; else they stay
abbrev pub LiveAfterDone : Type 0
LiveAfterDone =
    (schema : Schema) (start : Rows) (w new : World) → IsReached schema start w → (rows : Rows) → IsLive schema w rows
    → (xid : ℕ) (o : Opened) → get w.opened xid ≡ Some o → (sub : ℕ) (c : change_type.Change)
    → Acts schema w xid o sub c (Ok IsDone) new
    → IsLive schema new (effect schema rows c)

-- a change that was tried with this answer leaves the live rows
abbrev pub StayAfter : Acted → Type 0
StayAfter answer =
    (schema : Schema) (start : Rows) (w new : World) → IsReached schema start w → (rows : Rows) → IsLive schema w rows
    → (xid : ℕ) (o : Opened) → get w.opened xid ≡ Some o → (sub : ℕ) (c : change_type.Change)
    → Acts schema w xid o sub c (Ok answer) new
    → IsLive schema new rows

-- so does a change that is skipped
abbrev pub LiveAfterSkip : Type 0
LiveAfterSkip = StayAfter IsSkipped

-- so does one that is held
abbrev pub LiveAfterHeld : Type 0
LiveAfterHeld = (holder : ℕ) → StayAfter (Held holder)

-- so does one that clashes
abbrev pub LiveAfterClash : Type 0
LiveAfterClash = (cause : ClashCause) → StayAfter (Clashed cause)

-- so does a touch
abbrev pub LiveAfterTouch : Type 0
LiveAfterTouch =
    (schema : Schema) (start : Rows) (w new : World) → IsReached schema start w → (rows : Rows) → IsLive schema w rows
    → (xid : ℕ) (o : Opened) → get w.opened xid ≡ Some o → (sub : ℕ) (answer : Result (Unit {0}) Fault)
    → Touches w xid o sub answer new
    → IsLive schema new rows

-- a rollback drops the last of the transaction's changes; their inverses, put back past all that others did, give
-- the live rows
abbrev pub LiveAfterRollback : Type 0
LiveAfterRollback =
    (schema : Schema) (start : Rows) (w new : World) → IsReached schema start w → (rows : Rows) → IsLive schema w rows
    → (xid : ℕ) (o after : Opened) → get w.opened xid ≡ Some o → (sub : ℕ) → GoesBack w xid o sub new
    → get new.opened xid ≡ Some after
    → (gone : List change_type.Change) → work xid o ≡ work xid after ++ gone
    → IsLive schema new (all_back rows (inverses schema (own_rows schema new xid after) gone))

-- an abort takes the transaction's changes back, and leaves the others'
abbrev pub LiveAfterAbort : Type 0
LiveAfterAbort =
    (schema : Schema) (start : Rows) (w new : World) → IsReached schema start w → (rows : Rows) → IsLive schema w rows
    → (xid : ℕ) (o : Opened) → get w.opened xid ≡ Some o → Aborts w xid new
    → IsLive schema new (all_back rows (inverses schema w.committed (work xid o)))

-- a commit leaves the live rows
abbrev pub LiveAfterCommit : Type 0
LiveAfterCommit =
    (schema : Schema) (start : Rows) (w new : World) → IsReached schema start w → (rows : Rows) → IsLive schema w rows
    → (xid : ℕ) (o : Opened) → get w.opened xid ≡ Some o → (info : CommitInfo) → Commits schema w xid o info new
    → IsLive schema new rows

-- and it moves nobody's holds, nor what takes their changes back
abbrev pub CommitMovesNoHolds : Type 0
CommitMovesNoHolds =
    (schema : Schema) (start : Rows) (w new : World) → IsReached schema start w
    → (xid : ℕ) (o : Opened) → get w.opened xid ≡ Some o → (info : CommitInfo) → Commits schema w xid o info new
    → (other : ℕ) (p : Opened) → other ≢ xid → get w.opened other ≡ Some p
    → (get new.opened other ≡ Some p) × (holds schema new other p ≡ holds schema w other p)
    × (inverses schema new.committed (work other p) ≡ inverses schema w.committed (work other p))

-- ---- the committed rows, by the live ones

-- no open transaction holds a cell that overlaps this one
abbrev pub IsUnheld : Schema → World → Cell → Type 0
IsUnheld schema w cell =
    (xid : ℕ) (o : Opened) → get w.opened xid ≡ Some o → list_any (overlaps cell) (holds schema w xid o) ≡ false

-- what nobody holds is as committed
abbrev pub UnheldIsCommitted : Type 0
UnheldIsCommitted =
    (schema : Schema) (start : Rows) (w : World) → IsReached schema start w → (rows : Rows) → IsLive schema w rows
    → (cell : Cell) → IsUnheld schema w cell → SameAt schema w.committed rows cell

-- a commit leaves what its transaction doesn't hold: so the row that stood at a place when it was first held is the
-- committed one as long as it is held
abbrev pub CommitLeavesOtherCells : Type 0
CommitLeavesOtherCells =
    (schema : Schema) (w new : World) (xid : ℕ) (o : Opened) (info : CommitInfo) → Commits schema w xid o info new
    → (cell : Cell) → list_any (overlaps cell) (holds schema w xid o) ≡ false
    → SameAt schema w.committed new.committed cell

-- ---- the line

-- no call takes a commit away
abbrev pub LineGrows : Type 0
LineGrows = (schema : Schema) (w new : World) → Step schema w new → (more : List Past) × (new.line ≡ w.line ++ more)

-- ---- the way back

-- the live rows with the last changes of a transaction undone are valid
abbrev pub BackIsValid : Type 0
BackIsValid =
    (schema : Schema) (start : Rows) (w : World) → IsReached schema start w → (xid : ℕ) (o : Opened)
    → get w.opened xid ≡ Some o → (rows : Rows) → IsLive schema w rows
    → (kept gone : List change_type.Change) → work xid o ≡ kept ++ gone
    → IsValid schema (all_back rows (inverses schema (serial schema w.committed kept) gone))

-- a row whose place a transaction holds stands on the live rows as on its own view
abbrev pub HeldIsLive : Type 0
HeldIsLive =
    (schema : Schema) (start : Rows) (w : World) → IsReached schema start w → (xid : ℕ) (o : Opened)
    → get w.opened xid ≡ Some o → (rows : Rows) → IsLive schema w rows
    → (table : ℕ) (key : Key) → list_any (overlaps (Row table key)) (holds schema w xid o) ≡ true
    → get rows (table, key) ≡ get (own_rows schema w xid o) (table, key)
