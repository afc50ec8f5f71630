use Rattle.std.proofs.Common.{◌≡◌, length, vec_capacity}
use Rattle.table_locks.proofs.store.Store.lay.Given as goal

-- each of the tables so far lies under a lock, and there is room for the others
abbrev pub invariant-loop-part : goal.invariant-loop-part
invariant-loop-part g l = (length l.tables.items ≡ length l.yielded) × (vec_capacity l.tables ≡ vec_capacity l.initial.tables)
