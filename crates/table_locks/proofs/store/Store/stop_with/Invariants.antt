use Rattle.std.proofs.Common.{◌<◌, ◌≤◌, ℕ, IsSome, length}
use Rattle.table_locks.specs.Lending.{state_at}
use Rattle.table_locks.proofs.store.Store.stop_with.Given as goal

-- each table is locked still
abbrev pub invariant-loop-table : goal.invariant-loop-table
invariant-loop-table g l =
    ((table : ℕ) → table < length g.N.StoreNames.schema → IsSome (state_at l.guards table)) × (length g.N.StoreNames.schema ≤ length l.guards)
