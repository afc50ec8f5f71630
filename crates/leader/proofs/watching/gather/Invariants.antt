use Rattle.std.proofs.Common.{◌≡◌, ◌≤◌, ◌+◌, length, vec_capacity}
use Rattle.std.specs.Prelude.{All}
use Rattle.std.specs.Vec.Iter.{into_iter_len}
use Rattle.leader.specs.Watching.{KnowsAlong}
use Rattle.leader.proofs.watching.gather.Given as goal

-- each so far has come home, where there is room for all; line and publisher are as they were
abbrev pub invariant-loop-onlooker : goal.invariant-loop-onlooker
invariant-loop-onlooker g l = record {
  can_next : (goal.iterator-loop-onlooker g).can_next l.onlooker-iterator;
  is_finite : (goal.iterator-loop-onlooker g).is_finite l.onlooker-iterator;
  count : length l.home.items + into_iter_len l.onlooker-iterator ≡ length l.fn.onlookers.items;
  fits : length l.fn.onlookers.items ≤ vec_capacity l.home;
  knows : All (KnowsAlong g.V.Watch.knows g.N.StoreNames.schema g.N.StoreNames.start g.L.RunNames.skip l.fn.line.list l.fn.publisher.ends) l.home.items;
  line : l.line ≡ l.fn.line;
  publisher : l.publisher ≡ l.fn.publisher;
}
