-- The invariant of `drop_others`'s loop.
use Rattle.std.proofs.Common.{◌++◌, length}
use Rattle.worker.specs.Outbox.{IsSameMeeting}
use Rattle.worker.proofs.outbox.drop_others.Given as goal

abbrev pub invariant-loop : goal.invariant-loop
invariant-loop g l = IsSameMeeting l.initial.ends l.ends

abbrev pub decreases-loop : goal.decreases-loop
decreases-loop g l = length (l.ends.left ++ l.queued.items)
