use Rattle.std.proofs.Common.{◌≡◌, ◌≤◌, ◌+◌, length, vec_capacity}
use Rattle.std.specs.Vec.Iter.{into_iter_len}
use Rattle.leader.proofs.chief.fn.beside.scope.Given as goal

-- each so far has a place, and there is room for those that are left
abbrev pub invariant-loop-onlooker : goal.invariant-loop-onlooker
invariant-loop-onlooker g l = record {
  can_next : (goal.iterator-loop-onlooker g).can_next l.onlooker-iterator;
  is_finite : (goal.iterator-loop-onlooker g).is_finite l.onlooker-iterator;
  count : length l.away.items ≡ length l.yielded;
  fits : length l.away.items + into_iter_len l.onlooker-iterator ≤ vec_capacity l.away;
}
