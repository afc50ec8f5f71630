use Rattle.std.proofs.Common.{◌≡◌, None}
use Rattle.engine.specs.Events.{opened_by}
use Rattle.store_tests.proofs.tests.threads.workers.shared.Hand.start_with.Given as goal

abbrev pub invariant-loop-key : goal.invariant-loop-key
invariant-loop-key g l = (opened_by l.ticket.events).wants ≡ None
