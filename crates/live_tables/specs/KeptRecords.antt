-- What a store of open transactions keeps: of its tables, of its record of each open transaction, and of the world that
-- these stand for.
--     HasLogs      the inverses of a record take back its changes, and those of each savepoint the changes before it
--     IsRecordOf      a record tells what an open transaction has done
--     Represents      the tables are the live rows, and each open transaction can be undone
--     IsPutAt      the records with another one for a transaction, or with none for it
use Rattle.std.specs.Prelude.{◌≡◌, ◌≢◌, ℕ, List, Option, Some, None, take}
use Rattle.std.specs.FinMap.{get}
use Rattle.model.specs.Rows.{Rows, Schema}
use Rattle.model.specs.Survivors.{survivors, changes_of}
use Rattle.indexes.specs.Content.{Content}
use Rattle.undo.specs.Undo.{CanUndo}
use Rattle.undo.specs.LogOf.{IsLogOf}
use Rattle.savepoint.specs.declared.record.CutPoint.{CutPoint}
use Rattle.savepoint.specs.Savepoints.{mark_at}
use Rattle.savepoint.specs.Record.{Record, AllAreNamed}
use Rattle.savepoint.specs.RecordInside.{marks_of, IsMarked}
use Rattle.world.specs.World.{Opened, World}
use Rattle.world.specs.Live.{IsLive}
use Rattle.world.specs.Fine.{IsFine}

-- The inverses of a record take back the changes of its survivors, on the committed rows; and the inverses up to each
-- savepoint the changes before it.
pub record HasLogs (schema : Schema) (committed : Rows) (xid : ℕ) (r : Record) : Type 0 where
  pub points : List (ℕ × CutPoint)
  pub marks : r.marks ≡ marks_of points
  pub marked : IsMarked xid r.survivors points r.log.inverses
  pub log : IsLogOf schema committed (changes_of r.survivors) r.log.inverses
  pub logs : (sub : ℕ) (p : CutPoint) → mark_at sub points ≡ Some p
      → IsLogOf schema committed (changes_of (take p.items r.survivors)) (take p.mark.undo r.log.inverses)

-- the record tells what the open transaction has done
pub record IsRecordOf (schema : Schema) (w : World) (xid : ℕ) (o : Opened) (r : Record) : Type 0 where
  pub top : r.top ≡ xid
  pub survives : r.survivors ≡ survivors xid o.items
  pub named : AllAreNamed r
  pub logs : HasLogs schema w.committed xid r

-- the record of an open transaction, and that it can be undone
pub record IsReady (schema : Schema) (t : Content) (w : World) (records : ℕ → Option Record) (xid : ℕ) (o : Opened) : Type 0 where
  pub its : Record
  pub found : records xid ≡ Some its
  pub tells : IsRecordOf schema w xid o its
  pub can : CanUndo t its.log.inverses

-- The tables are the live rows of the world, and each of its open transactions has a record and can be undone.
pub record Represents (schema : Schema) (t : Content) (w : World) (records : ℕ → Option Record) : Type 0 where
  pub schema_is : t.schema ≡ schema
  pub fine : IsFine schema w
  pub live : IsLive schema w t.rows
  pub ready : (xid : ℕ) (o : Opened) → get w.opened xid ≡ Some o → IsReady schema t w records xid o
  pub closed : (xid : ℕ) → get w.opened xid ≡ None → records xid ≡ None

-- the records with another one for a transaction, or with none for it
pub record IsPutAt (records : ℕ → Option Record) (xid : ℕ) (r : Option Record) (new : ℕ → Option Record) : Type 0 where
  pub here : new xid ≡ r
  pub beside : (other : ℕ) → other ≢ xid → new other ≡ records other
