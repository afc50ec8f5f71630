use Rattle.std.proofs.Common.{◌++◌, ◌∙◌, ℕ, List, sym, ap, subst}
use Rattle.std.proofs.lemmas.Option.{none-some}
use Rattle.live_tables.specs.Answers.{told_call}
use Rattle.engine.specs.declared.events.Event.{Event}
use Rattle.engine.specs.Events.{touch_events}
use Rattle.parted_store.specs.Lent.{OpenTicket}
use Rattle.table_locks.specs.CallLemmas.{ticket_touched}
use Rattle.table_locks.specs.TicketLemmas.{counted_touched}
use Rattle.table_locks.specs.Tickets.{done_touched, IsTicket}
use Rattle.table_locks.specs.declared.ticket.Waits.{Waits}
use Rattle.table_locks.proofs.store.Store.touch.Goals as goal

pub invariant_of-ticket : goal.invariant_of-ticket
invariant_of-ticket g c =
    let t : OpenTicket = c.ticket.inside.ticket in
    let u : OpenTicket = c.touch_in-touched.new.ticket in
    let left = λ (table : ℕ). c.touch_in-touched.ensures.left table (λ i p at. absurd (none-some p at)) in
    let is = subst (λ (waits : Waits). IsTicket g.N.StoreNames.shares g.N.StoreNames.schema waits t) c.in-Nowhere.is c.ticket.invariant.0 in (
      subst (λ (waits : Waits). IsTicket g.N.StoreNames.shares g.N.StoreNames.schema waits u) (sym c.in-Nowhere.is)
          (ticket_touched g.N.StoreNames.shares g.N.StoreNames.schema t u is c.touch_in-touched.ensures.xid c.args.sub left (told_call c.touch_in-touched.result) c.touch_in-touched.ensures.events),
      c.ticket.invariant.1,
      λ table share at. c.ticket.invariant.2 table share (sym (left table) ∙ at),
      c.count_touched-ticket-inside.ensures ∙ ap (λ n. done_touched n (told_call c.touch_in-touched.result)) c.ticket.invariant.3
          ∙ sym (counted_touched t.events u.events c.args.sub (told_call c.touch_in-touched.result) c.touch_in-touched.ensures.events),
    )

pub returns-in-Nowhere-clause-events : goal.returns-in-Nowhere-clause-events
returns-in-Nowhere-clause-events g c =
    c.touch_in-touched.ensures.events
    ∙ ap (λ (events : List Event). events ++ touch_events c.args.sub (told_call c.touch_in-touched.result)) (ap (λ (t : OpenTicket). t.events) c.ticket.view_is)
