use Rattle.std.proofs.Common.{◌≡◌, ◌≤◌, take, vec_len}
use Rattle.savepoint.specs.Savepoints.{HasIndexes}
use Rattle.savepoint.proofs.savepoints.Savepoints.cut.Given as goal

-- The indexes are those of the marks that are left, which are the first ones.
abbrev pub invariant-loop-self : goal.invariant-loop-self
invariant-loop-self g l =
    (l.index ≤ vec_len l.self-inside.marks) × (l.self-inside.marks.items ≡ take (vec_len l.self-inside.marks) l.initial.self-inside.marks.items) × HasIndexes l.self-inside.indexes l.self-inside.marks.items

abbrev pub decreases-loop-self : goal.decreases-loop-self
decreases-loop-self g l = vec_len l.self-inside.marks
