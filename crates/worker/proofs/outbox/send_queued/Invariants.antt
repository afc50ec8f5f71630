-- The invariant of `send_queued`'s loop.
use Rattle.std.proofs.Common.{◌≡◌, ◌++◌, length}
use Rattle.worker.specs.Outbox.{SendsOn}
use Rattle.worker.proofs.outbox.send_queued.Given as goal

abbrev pub invariant-loop-item : goal.invariant-loop-item
invariant-loop-item g l =
    (l.sender.sent ++ l.queued.items ≡ l.initial.sender.sent ++ l.initial.queued.items)
    × SendsOn l.initial.sender l.sender

abbrev pub decreases-loop-item : goal.decreases-loop-item
decreases-loop-item g l = length l.queued.items
