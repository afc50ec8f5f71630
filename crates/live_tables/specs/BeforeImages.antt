-- What lies beside the cells that transactions hold, so that the committed rows are read by the holds.
--     LiveHolds      what transactions hold, as the code keeps it
--     HasTable      an inverse has the committed rows of a table
--     LiesBeside, AreBeforeImages      what lies beside a cell, and beside each that a transaction holds
--     HasBeforeImages      that is so for each open transaction
--     IsToStand, AreToStand      what is to lie beside the cells of a change
--     cells_of_each, up_to_before_image, IsStoodAt      the cells alone; those held at a mark; with other ones for a transaction
--     TakesBeforeImages      a transaction holds the cells of a change too
--     BeforeImageFits, HasNoRowBeside, TellsCommitted      what a look-up of a place and of its table tells
use Rattle.std.specs.Prelude.{◌≡◌, ◌≢◌, ℕ, ◌<◌, ◌⊎◌, List, Option, Some, None, take, slice_get}
use Rattle.std.specs.List.{Contains}
use Rattle.std.specs.Map.{keys_of}
use Rattle.std.specs.Ordering.{nat_cmp}
use Rattle.std.specs.FinMap.{FinMap, get}
use Rattle.model.specs.declared.key.Key.{Key}
use Rattle.model.specs.declared.row.Row.{Row as RecordRow}
use Rattle.model.specs.declared.cell.Cell.{Cell}
use Rattle.model.specs.declared.cell.Cell.TheVariants.{Row, Uniq, Whole}
use Rattle.model.specs.Rows.{Place, Rows}
use Rattle.change.specs.declared.inverse.Inverse.{Inverse}
use Rattle.change.specs.Inverse.{row_by_inverse}
use Rattle.savepoint.specs.declared.mark.Mark.{Mark}
use Rattle.savepoint.specs.Savepoints.{mark_at}
use Rattle.savepoint.specs.Record.{Record}
use Rattle.keyholds.specs.Holds.{with_holds}
use Rattle.world.specs.World.{Opened, World}
use Rattle.live_tables.specs.declared.before_image.CommittedRow.{CommittedRow}
use Rattle.live_tables.specs.declared.before_image.CommittedRow.TheVariants.{Beside, Emptied, Live}
use Rattle.live_tables.specs.declared.before_image.BeforeImage.{BeforeImage}
use Rattle.live_tables.specs.declared.before_image.BeforeImage.TheVariants.{Row as BeforeImageRow, Wiped, Other}

-- what each transaction holds, with what lies beside each cell, as the code keeps it
abbrev pub LiveHolds : Type 0
LiveHolds = FinMap nat_cmp (List (Cell × BeforeImage))

-- The inverse with this number has the committed rows of the table, but at the places that were held before.
pub record HasTable (committed : Rows) (inverses : List Inverse) (before : List Cell) (table count : ℕ) : Type 0 where
  pub inverse : Inverse
  pub at : slice_get inverses count ≡ Some inverse
  pub rows : (key : Key) → ¬ Contains before (Row table key) → row_by_inverse inverse (table, key) ≡ get committed (table, key)

-- What lies beside a cell, where these were held before it: beside a place the committed row, or nothing if its table was held
-- as a whole before; beside a whole table the number of the inverse that has its committed rows.
abbrev pub LiesBeside : Rows → List Inverse → List Cell → Cell → BeforeImage → Type 0
LiesBeside committed inverses before (Row table key) (BeforeImageRow row) = row ≡ get committed (table, key)
LiesBeside committed inverses before (Row table key) (Wiped count) = ⊥
LiesBeside committed inverses before (Row table key) Other = Contains before (Whole table)
LiesBeside committed inverses before (Uniq table number values) before_image = Unit {0}
LiesBeside committed inverses before (Whole table) (BeforeImageRow row) = ⊥
LiesBeside committed inverses before (Whole table) (Wiped count) = HasTable committed inverses before table count
LiesBeside committed inverses before (Whole table) Other = ⊥

-- So it is beside each cell of a list, which has each once. A table that was held at a savepoint was emptied before it.
pub record AreBeforeImages (committed : Rows) (inverses : List Inverse) (marks : List (ℕ × Mark)) (held : List (Cell × BeforeImage)) : Type 0 where
  pub beside : (index : ℕ) (cell : Cell) (before_image : BeforeImage) → slice_get held index ≡ Some (cell, before_image)
      → LiesBeside committed inverses (keys_of (take index held)) cell before_image
  pub once : (index : ℕ) (cell : Cell) (before_image : BeforeImage) → slice_get held index ≡ Some (cell, before_image)
      → ¬ Contains (keys_of (take index held)) cell
  pub marked : (sub : ℕ) (m : Mark) → mark_at sub marks ≡ Some m → (index table count : ℕ) → index < m.held
      → slice_get held index ≡ Some (Whole table, Wiped count) → count < m.undo

-- So it is beside all that the open transactions hold.
abbrev pub HasBeforeImages : World → (ℕ → Option Record) → (ℕ → List (Cell × BeforeImage)) → Type 0
HasBeforeImages w records held =
    (xid : ℕ) (o : Opened) (r : Record) → get w.opened xid ≡ Some o → records xid ≡ Some r
    → AreBeforeImages w.committed r.log.inverses r.marks (held xid)

-- What is to lie beside a cell that a transaction holds from now on, by the rows before its change, where it holds these cells
-- and has so many inverses.
abbrev pub IsToStand : (Place → Option RecordRow) → ℕ → List Cell → Cell → BeforeImage → Type 0
IsToStand before count cells (Row table key) (BeforeImageRow row) = (row ≡ before (table, key)) × ¬ Contains cells (Whole table)
IsToStand before count cells (Row table key) (Wiped number) = ⊥
IsToStand before count cells (Row table key) Other = Contains cells (Whole table)
IsToStand before count cells (Uniq table number values) before_image = Unit {0}
IsToStand before count cells (Whole table) (BeforeImageRow row) = ⊥
IsToStand before count cells (Whole table) (Wiped number) = number ≡ count
IsToStand before count cells (Whole table) Other = ⊥

-- so it is beside each of these that it doesn't hold yet
abbrev pub AreToStand : (Place → Option RecordRow) → ℕ → List Cell → List (Cell × BeforeImage) → Type 0
AreToStand before count cells more =
    (cell : Cell) (before_image : BeforeImage) → Contains more (cell, before_image) → ¬ Contains cells cell → IsToStand before count cells cell before_image

-- the cells alone that each holds
abbrev pub cells_of_each : {S : Type 0} → (ℕ → List (Cell × S)) → ℕ → List Cell
cells_of_each held xid = keys_of (held xid)

-- what was held at a mark; all of it without a mark
abbrev pub up_to_before_image : {S : Type 0} → Option Mark → List (Cell × S) → List (Cell × S)
up_to_before_image None held = held
up_to_before_image (Some m) held = take m.held held

-- what is held, with other holds for a transaction
pub record IsStoodAt {S : Type 0} (held : ℕ → List (Cell × S)) (xid : ℕ) (its : List (Cell × S)) (new : ℕ → List (Cell × S)) : Type 0 where
  pub here : new xid ≡ its
  pub beside : (other : ℕ) → other ≢ xid → new other ≡ held other

-- The transaction holds the cells of a change too, each with what is to lie beside it.
pub record TakesBeforeImages (live : Rows) (cells : List Cell) (count : ℕ) (held : ℕ → List (Cell × BeforeImage)) (xid : ℕ) (new : ℕ → List (Cell × BeforeImage)) : Type 0 where
  pub more : List (Cell × BeforeImage)
  pub its : keys_of more ≡ cells
  pub stand : AreToStand (get live) count (keys_of (held xid)) more
  pub at : IsStoodAt held xid (with_holds (held xid) more) new

-- ---- what a look-up of a place and of its table tells

-- What lies beside each cell fits it: beside a place a row, or nothing if the same transaction holds its table as a whole; beside
-- a whole table the number of an inverse.
pub record BeforeImageFits (held : ℕ → List (Cell × BeforeImage)) : Type 0 where
  pub place : (xid table : ℕ) (key : Key) (count : ℕ) → ¬ Contains (held xid) (Row table key, Wiped count)
  pub emptied : (xid table : ℕ) (key : Key) → Contains (held xid) (Row table key, Other) → Contains (keys_of (held xid)) (Whole table)
  pub table : (xid table : ℕ) (row : Option RecordRow) → ¬ Contains (held xid) (Whole table, BeforeImageRow row)
  pub numbered : (xid table : ℕ) → ¬ Contains (held xid) (Whole table, Other)

-- nobody holds the place, or nothing lies beside it
abbrev pub HasNoRowBeside : (ℕ → List (Cell × BeforeImage)) → ℕ → Key → Type 0
HasNoRowBeside held table key =
    ((xid : ℕ) → ¬ Contains (keys_of (held xid)) (Row table key)) ⊎ ((xid : ℕ) × Contains (held xid) (Row table key, Other))

-- Where the committed row at a place is found: beside the place; in an inverse of the transaction that emptied its table; in the
-- live tables, where nobody holds either.
abbrev pub TellsCommitted : (ℕ → List (Cell × BeforeImage)) → ℕ → Key → CommittedRow → Type 0
TellsCommitted held table key (Beside row) = (xid : ℕ) × Contains (held xid) (Row table key, BeforeImageRow row.now)
TellsCommitted held table key (Emptied xid count) = Contains (held xid) (Whole table, Wiped count) × HasNoRowBeside held table key
TellsCommitted held table key Live =
    ((xid : ℕ) → ¬ Contains (keys_of (held xid)) (Row table key)) × ((xid : ℕ) → ¬ Contains (keys_of (held xid)) (Whole table))
