use Rattle.std.proofs.Common.{◌≡◌}
use Rattle.store_tests.proofs.tests.locks.threads.read_all.Given as goal

-- what was seen is the store's
abbrev pub invariant-loop : goal.invariant-loop
invariant-loop g l = record {
  can_next : (goal.iterator-loop g).can_next l.iterator';
  is_finite : (goal.iterator-loop g).is_finite l.iterator';
  name : l.seen.name ≡ g.N.StoreNames.line;
}
