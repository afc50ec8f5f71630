use Rattle.std.proofs.Common.{◌≡◌}
use Rattle.parted_store.specs.Lent.{OpenTicket}
use Rattle.table_locks.specs.MeetingLemmas.{EachBelow, StillBelow}
use Rattle.table_locks.specs.Whole.{WantsIn}
use Rattle.table_locks.proofs.meeting.wait_in.Given as goal

-- it is so of those so far, and nothing has changed
abbrev pub invariant-loop-i : goal.invariant-loop-i
invariant-loop-i g l = record {
  wants_in : EachBelow (λ (t : OpenTicket). t.number ≡ l.xid → WantsIn l.fn.part.number t) l.fn.tickets l.i;
  told : StillBelow l.fn.tickets l.xid l.i l.wants;
  part : l.part ≡ l.fn.part;
  tickets : l.tickets ≡ l.fn.tickets;
}
