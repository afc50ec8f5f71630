use Rattle.std.proofs.Common.{◌≡◌, btree_map_len}
use Rattle.world.specs.World.{World}
use Rattle.live_tables.specs.Shut.{IsAborted}
use Rattle.live_tables.specs.Represents.{Represents}
use Rattle.live_tables.proofs.live_tables.Live.abort_all.Given as goal

-- some of those that were open are aborted
abbrev pub invariant-loop-xid : goal.invariant-loop-xid
invariant-loop-xid l = record {
  aborted : (w : World) → Represents w l.fn.self → (v : World) × IsAborted l.fn.self.tables.schema w v × Represents v l.self;
  schema : l.self.tables.schema ≡ l.fn.self.tables.schema;
}

abbrev pub decreases-loop-xid : goal.decreases-loop-xid
decreases-loop-xid l = btree_map_len l.self.transactions
