use Rattle.std.proofs.Common.{◌≡◌, ℕ, ◌<◌, length}
use Rattle.table_locks.specs.Reading.{IsLockedAt}
use Rattle.table_locks.proofs.store.Store.lock_all.Given as goal

-- those so far are locked
abbrev pub invariant-loop-table : goal.invariant-loop-table
invariant-loop-table g l = record {
  locked : (k : ℕ) → k < l.table → IsLockedAt l.guards k;
  long : length l.guards ≡ length l.initial.guards;
}
