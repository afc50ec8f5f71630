-- The invariant of `in_scope`'s loops.
use Rattle.std.proofs.Common.{◌≡◌}
use Rattle.worker_threads.proofs.workers.fn.in_scope.scope.Given as goal

abbrev pub invariant-loop-mailbox : goal.invariant-loop-mailbox
invariant-loop-mailbox g l = l.serving ≡ l.mailbox-index
