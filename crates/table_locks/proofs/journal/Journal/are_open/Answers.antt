use Rattle.std.proofs.Common.{◌≡◌, ◌∙◌, true, arith, slice_index_or, subst, sym}
use Rattle.std.proofs.lemmas.Option.{slice_get-get_or}
use Rattle.engine.specs.Events.{is_open_in}
use Rattle.parted_store.specs.Lent.{OpenTicket}
use Rattle.table_locks.specs.Journals.{JournalState}
use Rattle.table_locks.specs.MeetingLemmas.{none_below, one_below, each_of}
use Rattle.table_locks.proofs.journal.Journal.are_open.Goals as goal

pub loop-ticket-init : goal.loop-ticket-init
loop-ticket-init g c = none_below (λ (t : OpenTicket). is_open_in c.args.self.now.part.line.list t.number ≡ true) c.args.tickets.now

pub loop-ticket-preserved : goal.loop-ticket-preserved
loop-ticket-preserved g c =
    let tickets = c.args.tickets.now in
    let i = c.loop-ticket.ticket-index in
    let d = c.ticket-item.result in
    one_below (λ (t : OpenTicket). is_open_in c.args.self.now.part.line.list t.number ≡ true) tickets i (slice_index_or tickets i d)
    (slice_get-get_or tickets i d c.loop-ticket-test.true) c.loop-ticket.invariant
    (subst (λ (t : OpenTicket). is_open_in c.args.self.now.part.line.list t.number ≡ true) c.ticket-item.is
    (subst (λ (j : JournalState). is_open_in j.part.line.list d.number ≡ true) c.self.view_is
    (subst (λ n. is_open_in c.self.inside.part.line.list n ≡ true) c.xid.ensures (sym c.is_open.ensures ∙ c.if-not-is_open.false))))

pub returns : goal.returns
returns g c so =
    each_of (λ (t : OpenTicket). is_open_in c.args.self.now.part.line.list t.number ≡ true) c.args.tickets.now c.loop-ticket.ticket-index
    (let over = c.loop-ticket-test.false in omega (arith, over)) c.loop-ticket.invariant
