use Rattle.std.proofs.Common.{◌≡◌}
use Rattle.parted_store.specs.Lent.{OpenTicket, Stands}
use Rattle.table_locks.specs.MeetingLemmas.{EachBelow}
use Rattle.table_locks.proofs.meeting.meet_each_in.Given as goal

-- those so far stand so, and nothing has changed
abbrev pub invariant-loop-i : goal.invariant-loop-i
invariant-loop-i g l = record {
  stand : EachBelow (λ (t : OpenTicket). Stands l.fn.part t.shares) l.fn.tickets l.i;
  part : l.part ≡ l.fn.part;
  tickets : l.tickets ≡ l.fn.tickets;
}
