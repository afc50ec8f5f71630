use Rattle.std.proofs.Common.{◌≡◌, ℕ, ◌<◌, length}
use Rattle.std.specs.List.{Contains}
use Rattle.table_locks.specs.Reading.{IsLockedAt}
use Rattle.table_locks.proofs.store.Store.lock_named.Given as goal

-- of the tables so far those that are named are locked
abbrev pub invariant-loop-table : goal.invariant-loop-table
invariant-loop-table g l = record {
  places : length l.guards.items ≡ l.table;
  locked : (k : ℕ) → k < l.table → Contains l.tables k → IsLockedAt l.guards.items k;
}
