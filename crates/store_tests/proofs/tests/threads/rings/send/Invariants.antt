use Rattle.std.proofs.Common.{◌≡◌}
use Rattle.store_tests.proofs.tests.threads.rings.send.Given as goal

abbrev pub invariant-loop : goal.invariant-loop
invariant-loop g l = l.sender.ring ≡ l.initial.sender.ring
