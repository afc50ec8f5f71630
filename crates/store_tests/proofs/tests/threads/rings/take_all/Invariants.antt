use Rattle.std.proofs.Common.{◌≡◌}
use Rattle.store_tests.proofs.tests.threads.rings.take_all.Given as goal

abbrev pub invariant-loop-number : goal.invariant-loop-number
invariant-loop-number g l = l.taker.ring ≡ l.initial.taker.ring
