-- What the layers below tell a store of each of its calls.
--     HasSameRows      the tables have the same rows, and perhaps more room
--     IsApplied      a change was done, with its inverse
--     IsRolledBack, IsTakenBack, IsReleased      changes were undone since a savepoint; all of them; or given up at a commit
--     IsFresh, HasItem, HasTheSame      a record with nothing done; with one more item; with the same
use Rattle.std.specs.Prelude.{◌≡◌, ℕ, List, [], ◌∷◌, ◌++◌, map, length}
use Rattle.std.specs.List.{Contains}
use Rattle.model.specs.declared.change.Change.{Change}
use Rattle.model.specs.declared.cell.Cell.{Cell}
use Rattle.model.specs.declared.item.Item.{Item}
use Rattle.model.specs.declared.item.Item.TheVariants.{BackTo}
use Rattle.model.specs.Rows.{Schema}
use Rattle.model.specs.Effect.{outcome, effect, inverse, all_back}
use Rattle.model.specs.Footprint.{footprint}
use Rattle.model.specs.Survivors.{after_item}
use Rattle.indexes.specs.Content.{Content, KeepsCells}
use Rattle.change.specs.declared.inverse.Inverse.{Inverse}
use Rattle.change.specs.Inverse.{edits_of, room_back, CanPutBack}
use Rattle.change.specs.Altered.{cells_altered}
use Rattle.change.specs.Applied.{IsDone}
use Rattle.undo.specs.Undo.{content_undone, all_settled}
use Rattle.undo.specs.Others.{StaysInRoom, HasRoomForAll}
use Rattle.savepoint.specs.declared.mark.Mark.{Mark}
use Rattle.savepoint.specs.Savepoints.{before_mark}
use Rattle.savepoint.specs.Record.{Record, with_mark_unless_top, AllAreNamed, inverses_since, inverses_before}

-- the tables have the same rows, and perhaps more room
pub record HasSameRows (schema : Schema) (old new : Content) : Type 0 where
  pub schema_is : new.schema ≡ schema
  pub rows : new.rows ≡ old.rows
  pub room : KeepsCells old.room new.room

-- the change was done, and this inverse takes it back
pub record IsApplied (schema : Schema) (old new : Content) (c : Change) (i : Inverse) : Type 0 where
  pub schema_is : new.schema ≡ schema
  pub done : IsDone (outcome schema old.rows c)
  pub rows : new.rows ≡ effect schema old.rows c
  pub back_is : edits_of i ≡ inverse schema old.rows c
  pub alters : KeepsCells (cells_altered i) (footprint schema old.rows c)
  pub can_back : CanPutBack new i
  pub room : KeepsCells old.room (room_back new.room i)

-- the changes of a record were undone since a subtransaction's savepoint, and what came after it is dropped
pub record IsRolledBack (schema : Schema) (old new : Content) (sub : ℕ) (r s : Record) : Type 0 where
  pub schema_is : new.schema ≡ schema
  pub rows : new.rows ≡ all_back old.rows (map edits_of (inverses_since sub r))
  pub room : KeepsCells (content_undone old (inverses_since sub r)).room new.room
  pub top : s.top ≡ r.top
  pub survivors : s.survivors ≡ after_item r.top r.survivors (BackTo sub)
  pub marks : s.marks ≡ before_mark sub r.marks
  pub inverses : s.log.inverses ≡ inverses_before sub r
  pub named : AllAreNamed s

-- all changes of a record were undone
pub record IsTakenBack (schema : Schema) (old new : Content) (r : Record) : Type 0 where
  pub schema_is : new.schema ≡ schema
  pub rows : new.rows ≡ all_back old.rows (map edits_of r.log.inverses)
  pub room : KeepsCells (content_undone old r.log.inverses).room new.room

-- what the changes of a record can be taken back with was given up, and no other cell
pub record IsReleased (schema : Schema) (old new : Content) (r : Record) : Type 0 where
  pub schema_is : new.schema ≡ schema
  pub rows : new.rows ≡ old.rows
  pub has_room : HasRoomForAll new
  pub others : (cell : Cell) → ¬ Contains (all_settled old.schema r.log.inverses) cell → StaysInRoom old new cell

-- a record of a transaction that has done nothing yet
pub record IsFresh (xid : ℕ) (r : Record) : Type 0 where
  pub top : r.top ≡ xid
  pub survivors : r.survivors ≡ []
  pub marks : r.marks ≡ []
  pub inverses : r.log.inverses ≡ []
  pub named : AllAreNamed r

-- a record with one more item, whose subtransaction has a savepoint, and with the inverse of its change if it has one
pub record HasItem (xid sub : ℕ) (item : Item) (more : List Inverse) (r s : Record) : Type 0 where
  pub mark : Mark
  pub undo : mark.undo ≡ length r.log.inverses
  pub top : s.top ≡ r.top
  pub survivors : s.survivors ≡ r.survivors ++ item ∷ []
  pub marks : s.marks ≡ with_mark_unless_top xid sub mark r.marks
  pub inverses : s.log.inverses ≡ r.log.inverses ++ more
  pub named : AllAreNamed s

-- a record that tells the same
pub record HasTheSame (r s : Record) : Type 0 where
  pub top : s.top ≡ r.top
  pub survivors : s.survivors ≡ r.survivors
  pub marks : s.marks ≡ r.marks
  pub inverses : s.log.inverses ≡ r.log.inverses
  pub named : AllAreNamed s
