use Rattle.std.proofs.Common.{◌≡◌}
use Rattle.store_tests.proofs.tests.threads.rings.take_until_doomed.Given as goal

abbrev pub invariant-loop : goal.invariant-loop
invariant-loop g l = l.taker.ring ≡ l.initial.taker.ring
