use Rattle.std.proofs.Common.{◌≡◌, vec_len, vec_capacity}
use Rattle.table_locks.specs.Lending.{FitEach}
use Rattle.table_locks.proofs.locks.put_each.Given as goal

-- the parts that are left may lie where their guards are
abbrev pub invariant-loop-part : goal.invariant-loop-part
invariant-loop-part g l =
    FitEach g.N.StoreNames.shares g.N.StoreNames.tables g.N.StoreNames.schema g.N.StoreNames.start l.guards l.lent.items
    × (vec_capacity l.lent ≡ vec_capacity l.initial.lent)

abbrev pub decreases-loop-part : goal.decreases-loop-part
decreases-loop-part g l = vec_len l.lent
