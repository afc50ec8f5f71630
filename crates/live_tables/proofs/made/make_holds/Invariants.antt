use Rattle.std.proofs.Common.{◌≡◌, ◌≢◌, ℕ, [], take, drop}
use Rattle.model.specs.Rows.{Rows}
use Rattle.model.specs.Survivors.{changes_of}
use Rattle.undo.specs.LogOf.{IsLogOf}
use Rattle.keyholds.specs.Holds.{holds_of}
use Rattle.live_tables.specs.MadeHolds.{IsSoFar}
use Rattle.live_tables.proofs.made.make_holds.Given as goal

-- the changes so far are taken, and what is left of the log is that of the others
abbrev pub invariant-loop-item : goal.invariant-loop-item
invariant-loop-item l = record {
  far : (committed : Rows) → IsLogOf l.tables.schema committed (changes_of l.items) l.record.log.inverses
      → IsSoFar l.tables.schema committed (changes_of (take l.item-index l.items)) (changes_of (drop l.item-index l.items)) l.record.log.inverses l.count (holds_of l.holds l.xid);
  alone : (other : ℕ) → other ≢ l.xid → holds_of l.holds other ≡ [];
  same : l.items ≡ l.record.survivors;
}
