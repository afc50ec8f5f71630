use Rattle.std.proofs.Common.{◌≤◌, ◌++◌, ◌∙◌, List, length, sym, ap, subst}
use Rattle.std.proofs.lemmas.List.{with_items_is}
use Rattle.world.specs.World.{World}
use Rattle.live_tables.specs.Answers.{told_call, after_touch}
use Rattle.engine.specs.declared.events.Event.{Event}
use Rattle.engine.specs.Events.{opened_by, touch_events}
use Rattle.table_parts.specs.Part.{Part}
use Rattle.parted_store.specs.EachPart.{AreApart, BelongEach, WaitsAmong}
use Rattle.parted_store.specs.EndLemmas.{none_beside}
use Rattle.parted_store.specs.Lent.{OpenTicket}
use Rattle.parted_store.specs.Shares.{share_of}
use Rattle.table_locks.specs.CallLemmas.{belong_each, stay_each, ticket_behind, fit_again, touch_steps, touch_line, waits_touched}
use Rattle.table_locks.specs.Lending.{AreMet, FitEach}
use Rattle.table_locks.specs.TicketLemmas.{had_share, counted_touched}
use Rattle.table_locks.specs.Tickets.{counted, done_touched, IsTicket, waits_after}
use Rattle.table_locks.specs.declared.ticket.Waits.{Waits}
use Rattle.table_locks.proofs.store.Store.touch_with.Goals as goal

pub touch_in-touched-requires-clause-apart : goal.touch_in-touched-requires-clause-apart
touch_in-touched-requires-clause-apart g c = subst AreApart (sym c.as_mut_slice.ensures.value) c.lend_its.ensures.met.apart

pub touch_in-touched-requires-clause-belong : goal.touch_in-touched-requires-clause-belong
touch_in-touched-requires-clause-belong g c =
    let t : OpenTicket = c.lend_its.new.ticket in
    subst (λ (ps : List Part). BelongEach ps t.shares) (sym c.as_mut_slice.ensures.value)
    (belong_each g.N.StoreNames.shares g.N.StoreNames.schema g.N.StoreNames.start c.ticket.inside.waits t (c.lend_its.ensures.ticket c.ticket.inside.waits c.ticket.invariant.0)
    c.lend_its.new.lent.items c.lend_its.ensures.met.kept)

pub touch_in-touched-requires-clause-waits : goal.touch_in-touched-requires-clause-waits
touch_in-touched-requires-clause-waits g c =
    let t : OpenTicket = c.lend_its.new.ticket in
    subst (λ (ps : List Part). WaitsAmong ps (opened_by t.events)) (sym c.as_mut_slice.ensures.value)
    (λ table beside. (none_beside c.lend_its.new.lent.items t c.recall_invariant.ensures c.lend_its.ensures.met.covers table beside).1)

pub put_each-requires : goal.put_each-requires
put_each-requires g c =
    let t : OpenTicket = c.lend_its.new.ticket in
    let parts : List Part = c.as_mut_slice.result.now in
    let new : List Part = c.touch_in-touched.new.parts in
    let value = c.as_mut_slice.ensures.value in
    let answer = told_call c.touch_in-touched.result in
    let touch = c.touch_in-touched.ensures in
    let after : World → World = λ w. after_touch w t.number (opened_by t.events) c.args.sub answer in
    let met = subst (AreMet g.N.StoreNames.shares g.N.StoreNames.schema g.N.StoreNames.start t.shares) (sym value) c.lend_its.ensures.met in
    let fit = subst (FitEach g.N.StoreNames.shares g.N.StoreNames.tables g.N.StoreNames.schema g.N.StoreNames.start c.lend_its.new.guards) (sym value) c.lend_its.ensures.fit in
    subst (FitEach g.N.StoreNames.shares g.N.StoreNames.tables g.N.StoreNames.schema g.N.StoreNames.start c.lend_its.new.guards)
    (sym (with_items_is c.lend_its.new.lent new (touch.long ∙ c.as_mut_slice.ensures.len)))
    (fit_again g.N.StoreNames.shares g.N.StoreNames.tables g.N.StoreNames.schema g.N.StoreNames.start c.lend_its.new.guards parts new fit
    (stay_each g.N.StoreNames.shares g.N.StoreNames.schema g.N.StoreNames.start c.ticket.inside.waits t (c.lend_its.ensures.ticket c.ticket.inside.waits c.ticket.invariant.0)
    parts new met after touch.parts touch.same g.N.StoreNames.tables (λ w runs at. touch_steps g.N.StoreNames.schema w t.number (opened_by t.events) c.args.sub answer at runs) (λ w. touch_line w t.number (opened_by t.events) c.args.sub answer)
    touch.ends touch.sound touch.long))

pub invariant_of-ticket : goal.invariant_of-ticket
invariant_of-ticket g c =
    let t : OpenTicket = c.lend_its.new.ticket in
    let is = c.lend_its.ensures.ticket c.ticket.inside.waits c.ticket.invariant.0 in
    let u : OpenTicket = c.touch_in-touched.new.ticket in
    let parts : List Part = c.as_mut_slice.result.now in
    let new : List Part = c.touch_in-touched.new.parts in
    let answer = told_call c.touch_in-touched.result in
    let touch = c.touch_in-touched.ensures in
    let after : World → World = λ w. after_touch w t.number (opened_by t.events) c.args.sub answer in
    let met = subst (AreMet g.N.StoreNames.shares g.N.StoreNames.schema g.N.StoreNames.start t.shares) (sym c.as_mut_slice.ensures.value) c.lend_its.ensures.met in (
      subst (λ (waits : Waits). IsTicket g.N.StoreNames.shares g.N.StoreNames.schema waits u) (sym c.waits_after-ticket-inside.ensures)
          (ticket_behind g.N.StoreNames.shares g.N.StoreNames.schema g.N.StoreNames.start c.ticket.inside.waits t is
          parts new met after touch.parts touch.same u touch.xid touch.shares touch.stand touch.ticket (waits_after c.ticket.inside.waits answer) (waits_touched c.ticket.inside.waits t u is.waits_so c.args.sub answer touch.events)),
      c.put_each.ensures.none,
      λ table share at.
          let had = had_share (share_of t.shares table) (share_of u.shares table) (touch.shares table) share at in
          subst (λ n. length g.N.StoreNames.schema ≤ n) (sym c.put_each.ensures.capacity) (c.lend_its.ensures.room table had.0 had.1),
      c.count_touched-ticket-inside.ensures
          ∙ ap (λ n. done_touched n answer) (c.ticket.invariant.3 ∙ ap counted (sym c.lend_its.ensures.events))
          ∙ sym (counted_touched t.events u.events c.args.sub answer touch.events),
    )

pub returns-clause-fault : goal.returns-clause-fault
returns-clause-fault g c = c.touch_in-touched.ensures.fault

pub returns-clause-events : goal.returns-clause-events
returns-clause-events g c =
    c.touch_in-touched.ensures.events
    ∙ ap (λ (es : List Event). es ++ touch_events c.args.sub (told_call c.touch_in-touched.result))
    (c.lend_its.ensures.events ∙ ap (λ (t : OpenTicket). t.events) c.ticket.view_is)

pub returns-clause-xid : goal.returns-clause-xid
returns-clause-xid g c = c.touch_in-touched.ensures.xid ∙ c.lend_its.ensures.xid ∙ ap (λ (t : OpenTicket). t.number) c.ticket.view_is
