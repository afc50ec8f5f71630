-- What the holds of a store keep: each open transaction holds just the cells of its work.
--     HasSameCells      two lists have the same cells
--     AreHolds      the cells held are those of the world
--     IsHeldAt      the cells with other ones for a transaction
--     HasHeldMarks      the marks of a record's savepoints tell what was held there
use Rattle.std.specs.Prelude.{◌≡◌, ◌≢◌, ◌↔◌, ◌≤◌, ℕ, List, [], Option, Some, None, length, take}
use Rattle.std.specs.List.{Contains}
use Rattle.std.specs.FinMap.{get}
use Rattle.model.specs.declared.cell.Cell.{Cell}
use Rattle.model.specs.Rows.{Rows, Schema}
use Rattle.model.specs.Footprint.{held_cells}
use Rattle.model.specs.Survivors.{before_savepoint, changes_of}
use Rattle.savepoint.specs.declared.mark.Mark.{Mark}
use Rattle.savepoint.specs.Savepoints.{mark_at, before_mark}
use Rattle.savepoint.specs.Record.{Record}
use Rattle.world.specs.World.{Opened, World, holds}

-- the same cells, in whatever order and however often
abbrev pub HasSameCells : List Cell → List Cell → Type 0
HasSameCells cells others = (cell : Cell) → Contains cells cell ↔ Contains others cell

-- each open transaction holds the cells of its work, and no other holds any
pub record AreHolds (schema : Schema) (w : World) (held : ℕ → List Cell) : Type 0 where
  pub its : (xid : ℕ) (o : Opened) → get w.opened xid ≡ Some o → HasSameCells (held xid) (holds schema w xid o)
  pub none : (xid : ℕ) → get w.opened xid ≡ None → held xid ≡ []

-- the cells held, with these for a transaction
pub record IsHeldAt (held : ℕ → List Cell) (xid : ℕ) (cells : List Cell) (new : ℕ → List Cell) : Type 0 where
  pub here : new xid ≡ cells
  pub beside : (other : ℕ) → other ≢ xid → new other ≡ held other

-- The mark of each savepoint tells how many of the cells were held there: just those of the changes before it.
pub record HasHeldMarks (schema : Schema) (committed : Rows) (r : Record) (cells : List Cell) : Type 0 where
  pub within : (sub : ℕ) (m : Mark) → mark_at sub r.marks ≡ Some m → m.held ≤ length cells
  pub before : (sub : ℕ) (m : Mark) → mark_at sub r.marks ≡ Some m
      → HasSameCells (take m.held cells) (held_cells schema committed (changes_of (before_savepoint sub r.survivors)))
  pub rising : (sub other : ℕ) (p q : Mark) → mark_at sub r.marks ≡ Some p → mark_at other (before_mark sub r.marks) ≡ Some q
      → (q.held ≤ p.held) × (before_savepoint other (before_savepoint sub r.survivors) ≡ before_savepoint other r.survivors)

-- the cells that were held at a mark; all of them without a mark
abbrev pub up_to_held : Option Mark → List Cell → List Cell
up_to_held None cells = cells
up_to_held (Some m) cells = take m.held cells
