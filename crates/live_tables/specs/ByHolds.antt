-- A store that represents its world by its holds.
--     RepresentsWith      it would, with these holds
--     RepresentsByHolds      tables, records, holds, counts and stop are those of the world, and what lies beside the cells held
use Rattle.std.specs.Prelude.{◌≡◌, ℕ, Some, IfSome, length}
use Rattle.std.specs.Ordering.{nat_cmp}
use Rattle.std.specs.BTreeMap as tree
use Rattle.std.specs.BTreeMap.{btree_map_len}
use Rattle.std.specs.FinMap as finite
use Rattle.std.specs.FinMap.{get}
use Rattle.keyholds.specs.Holds.{holds_of, cells_held}
use Rattle.savepoint.specs.Record.{Record}
use Rattle.world.specs.World.{Opened, World}
use Rattle.live_tables.specs.declared.live_tables.Live.{Live}
use Rattle.live_tables.specs.declared.transaction.OpenTransaction.{OpenTransaction}
use Rattle.live_tables.specs.Answers.{told_stop, HasCause}
use Rattle.live_tables.specs.Held.{AreHolds, HasHeldMarks}
use Rattle.live_tables.specs.KeptRecords.{Represents as RecordsRepresent}
use Rattle.live_tables.specs.BeforeImages.{LiveHolds, HasBeforeImages}
use Rattle.live_tables.specs.Represents.{records_in, IsBeside}

-- Tables, records, holds, counts and stop are those of the world, and beside the cells held lies what stood there.
pub record RepresentsByHolds (w : World) (l : Live) : Type 0 where
  pub kept : RecordsRepresent l.tables.schema l.tables w (records_in l.transactions)
  pub holds : AreHolds l.tables.schema w (cells_held l.holds)
  pub marks : (xid : ℕ) (r : Record) → records_in l.transactions xid ≡ Some r → HasHeldMarks l.tables.schema w.committed r (cells_held l.holds xid)
  pub beside : (xid : ℕ) (o : Opened) (kept : OpenTransaction) → get w.opened xid ≡ Some o → tree.get nat_cmp l.transactions xid ≡ Some kept
      → IsBeside (length l.tables.schema) o kept
  pub count : finite.len w.opened ≡ btree_map_len l.transactions
  pub stopped : told_stop l.stopped ≡ w.stopped
  pub caused : IfSome l.stopped HasCause  -- want of memory stops no store
  pub before_image : HasBeforeImages w (records_in l.transactions) (holds_of l.holds)

-- it would, if these were its holds
abbrev pub RepresentsWith : LiveHolds → World → Live → Type 0
RepresentsWith held w l = RepresentsByHolds w (record l { holds = held })
