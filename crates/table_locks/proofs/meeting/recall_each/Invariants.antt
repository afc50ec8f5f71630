use Rattle.parted_store.specs.Lent.{OpenTicket, HasShares}
use Rattle.table_locks.specs.MeetingLemmas.{EachBelow}
use Rattle.table_locks.specs.Tickets.{IsTicketOf}
use Rattle.table_locks.proofs.meeting.recall_each.Given as goal

-- it is so of those so far
abbrev pub invariant-loop-ticket : goal.invariant-loop-ticket
invariant-loop-ticket g l =
    EachBelow (λ (t : OpenTicket). IsTicketOf g.N.StoreNames.shares g.N.StoreNames.schema t × HasShares t) l.tickets l.ticket-index
