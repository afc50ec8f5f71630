use Rattle.std.proofs.Common.{◌≡◌, true}
use Rattle.engine.specs.Events.{is_open_in}
use Rattle.parted_store.specs.Lent.{OpenTicket}
use Rattle.table_locks.specs.MeetingLemmas.{EachBelow}
use Rattle.table_locks.proofs.journal.Journal.are_open.Given as goal

-- each of those so far is open
abbrev pub invariant-loop-ticket : goal.invariant-loop-ticket
invariant-loop-ticket g l = EachBelow (λ (t : OpenTicket). is_open_in l.self.part.line.list t.number ≡ true) l.tickets l.ticket-index
