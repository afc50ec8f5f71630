use Rattle.std.proofs.Common.{◌≡◌, length, vec_capacity}
use Rattle.table_locks.specs.Lending.{AreLent}
use Rattle.table_locks.proofs.locks.lend_each.Given as goal

-- those of the tables so far are lent
abbrev pub invariant-loop-table : goal.invariant-loop-table
invariant-loop-table g l =
    AreLent g.N.StoreNames.shares g.N.StoreNames.tables g.N.StoreNames.schema g.N.StoreNames.start (g.D.Needs.needs l.needed) l.table l.guards l.lent.items
    × (length l.guards ≡ length l.initial.guards)
    × (vec_capacity l.lent ≡ vec_capacity l.initial.lent)
