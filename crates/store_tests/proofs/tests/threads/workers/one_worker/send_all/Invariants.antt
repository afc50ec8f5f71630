use Rattle.std.proofs.Common.{◌≡◌}
use Rattle.store_tests.proofs.tests.threads.workers.one_worker.send_all.Given as goal

abbrev pub invariant-loop-step : goal.invariant-loop-step
invariant-loop-step g l = l.sender.ring ≡ l.initial.sender.ring
