use Rattle.std.proofs.Common.{arith, slice_index_or, subst}
use Rattle.std.proofs.lemmas.Option.{slice_get-get_or}
use Rattle.parted_store.specs.Lent.{OpenTicket, HasShares}
use Rattle.table_locks.specs.MeetingLemmas.{none_below, one_below, each_of}
use Rattle.table_locks.specs.Tickets.{IsTicketOf}
use Rattle.table_locks.proofs.meeting.recall_each.Goals as goal

pub loop-ticket-init : goal.loop-ticket-init
loop-ticket-init g c = none_below (λ (t : OpenTicket). IsTicketOf g.N.StoreNames.shares g.N.StoreNames.schema t × HasShares t) c.args.tickets.now

pub loop-ticket-preserved : goal.loop-ticket-preserved
loop-ticket-preserved g c =
    let tickets = c.args.tickets.now in
    let i = c.loop-ticket.ticket-index in
    let d = c.ticket-item.result in
    one_below (λ (t : OpenTicket). IsTicketOf g.N.StoreNames.shares g.N.StoreNames.schema t × HasShares t) tickets i (slice_index_or tickets i d)
    (slice_get-get_or tickets i d c.loop-ticket-test.true) c.loop-ticket.invariant
    (subst (λ (t : OpenTicket). IsTicketOf g.N.StoreNames.shares g.N.StoreNames.schema t × HasShares t) c.ticket-item.is
    (c.recall_invariant.ensures.is, c.recall_invariant.ensures.shares))

pub returns : goal.returns
returns g c =
    each_of (λ (t : OpenTicket). IsTicketOf g.N.StoreNames.shares g.N.StoreNames.schema t × HasShares t) c.args.tickets.now c.loop-ticket.ticket-index
    (let over = c.loop-ticket-test.false in omega (arith, over)) c.loop-ticket.invariant
