use Rattle.table_locks.specs.MeetingLemmas.{DifferentBelow}
use Rattle.table_locks.proofs.meeting.are_different.Given as goal

-- those so far are
abbrev pub invariant-loop-i : goal.invariant-loop-i
invariant-loop-i g l = DifferentBelow l.tickets l.i
