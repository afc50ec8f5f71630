-- What ties the live part of a store to a world that it stands for.
--     records_in      the record of each open transaction
--     IsBeside      what is kept of an open transaction beside its record
--     AreHeld      these holds are those of the world, with what stood there beside each cell
--     IsLone      one transaction at most is open, and holds nothing
--     Represents      tables, records, counts and stop are those of the world, and holds, once they are made
use Rattle.std.specs.Prelude.{◌≡◌, ℕ, ◌-◌, ◌^◌, true, false, [], Option, Some, All, IfSome, option_map, length, min}
use Rattle.std.specs.Ordering.{nat_cmp}
use Rattle.std.specs.BTreeMap as tree
use Rattle.std.specs.BTreeMap.{BTreeMap, btree_map_len}
use Rattle.std.specs.FinMap as finite
use Rattle.std.specs.FinMap.{get}
use Rattle.model.specs.declared.change.Change.{Change}
use Rattle.model.specs.Named.{NamesTables}
use Rattle.model.specs.Survivors.{changes_of}
use Rattle.keyholds.specs.Holds.{holds_of, cells_held}
use Rattle.savepoint.specs.Record.{Record}
use Rattle.world.specs.World.{Opened, World}
use Rattle.live_tables.specs.declared.live_tables.Live.{Live}
use Rattle.live_tables.specs.declared.transaction.OpenTransaction.{OpenTransaction}
use Rattle.live_tables.specs.Answers.{told_stop, HasCause}
use Rattle.live_tables.specs.Held.{AreHolds, HasHeldMarks}
use Rattle.live_tables.specs.KeptRecords.{Represents as RecordsRepresent}
use Rattle.live_tables.specs.BeforeImages.{LiveHolds, HasBeforeImages}

-- the record of each open transaction
abbrev pub records_in : BTreeMap ℕ OpenTransaction → ℕ → Option Record
records_in transactions xid = option_map (λ (kept : OpenTransaction). kept.record) (tree.get nat_cmp transactions xid)

-- What is kept of an open transaction beside its record: the change that it waits with, whose tables are there, and how many
-- items it has done, as far as a u64 counts.
pub record IsBeside (tables : ℕ) (o : Opened) (kept : OpenTransaction) : Type 0 where
  pub wants : kept.wants ≡ o.wants
  pub named : IfSome kept.wants (λ (w : ℕ × Change). NamesTables tables w.1)
  pub done : kept.done ≡ min (length o.items) (2 ^ 64 - 1)

-- These holds are those of the world, the marks tell what was held at each savepoint, and beside each cell lies what stood there.
pub record AreHeld (w : World) (l : Live) (held : LiveHolds) : Type 0 where
  pub holds : AreHolds l.tables.schema w (cells_held held)
  pub marks : (xid : ℕ) (r : Record) → records_in l.transactions xid ≡ Some r → HasHeldMarks l.tables.schema w.committed r (cells_held held xid)
  pub before_image : HasBeforeImages w (records_in l.transactions) (holds_of held)

-- One transaction at most is open, it has set no savepoint, its changes name known tables, and nothing is held. What would be
-- held is there for proofs alone.
pub record IsLone (w : World) (l : Live) : Type 0 where
  pub would : LiveHolds
  pub held : AreHeld w l would
  pub only : (xid other : ℕ) (o p : Opened) → get w.opened xid ≡ Some o → get w.opened other ≡ Some p → other ≡ xid
  pub unmarked : (xid : ℕ) (r : Record) → records_in l.transactions xid ≡ Some r → r.marks ≡ []
  pub named : (xid : ℕ) (r : Record) → records_in l.transactions xid ≡ Some r → All (NamesTables (length l.tables.schema)) (changes_of r.survivors)
  pub none : (xid : ℕ) → holds_of l.holds xid ≡ []

-- Tables, records, counts and stop are those of the world. So are the holds, once they are made; until then a transaction is alone.
pub record Represents (w : World) (l : Live) : Type 0 where
  pub kept : RecordsRepresent l.tables.schema l.tables w (records_in l.transactions)
  pub beside : (xid : ℕ) (o : Opened) (kept : OpenTransaction) → get w.opened xid ≡ Some o → tree.get nat_cmp l.transactions xid ≡ Some kept
      → IsBeside (length l.tables.schema) o kept
  pub count : finite.len w.opened ≡ btree_map_len l.transactions
  pub stopped : told_stop l.stopped ≡ w.stopped
  pub caused : IfSome l.stopped HasCause  -- want of memory stops no store
  pub made : l.made ≡ true → AreHeld w l l.holds
  pub lone : l.made ≡ false → IsLone w l
