use Rattle.std.specs.Prelude.{◌≢◌}
use Rattle.parted_store.specs.Lent.{OpenTicket}
use Rattle.table_locks.specs.MeetingLemmas.{EachBelow}
use Rattle.table_locks.proofs.meeting.is_among.Given as goal

-- none of those so far is the transaction's
abbrev pub invariant-loop-ticket : goal.invariant-loop-ticket
invariant-loop-ticket g l = EachBelow (λ (t : OpenTicket). t.number ≢ l.xid) l.tickets l.ticket-index
