use Rattle.std.proofs.Common.{◌≤◌, ◌++◌, ◌∷◌, [], ◌∙◌, List, length, refl, sym, ap, subst}
use Rattle.std.proofs.lemmas.List.{with_items_is}
use Rattle.model.specs.declared.item.Item.TheVariants.{BackTo}
use Rattle.world.specs.Steps.{goes_back, done_with}
use Rattle.world.specs.World.{World}
use Rattle.engine.specs.declared.events.Event.{Event}
use Rattle.engine.specs.declared.events.Event.TheVariants.{Done}
use Rattle.engine.specs.Events.{opened_by}
use Rattle.table_parts.specs.Part.{Part}
use Rattle.parted_store.specs.EachPart.{AreApart, BelongEach, Covers}
use Rattle.parted_store.specs.Lent.{OpenTicket}
use Rattle.parted_store.specs.Shares.{share_of}
use Rattle.table_locks.specs.CallLemmas.{belong_each, stay_each, ticket_behind, fit_again, wants_back}
use Rattle.table_locks.specs.Lending.{AreMet, FitEach}
use Rattle.table_locks.specs.TicketLemmas.{had_share, counted_more}
use Rattle.table_locks.specs.Tickets.{counted, one_more}
use Rattle.table_locks.specs.declared.ticket.Waits.TheVariants.{Nowhere}
use Rattle.table_locks.proofs.store.Store.back_with.Goals as goal

pub back_to_in-requires-clause-apart : goal.back_to_in-requires-clause-apart
back_to_in-requires-clause-apart g c = subst AreApart (sym c.as_mut_slice.ensures.value) c.lend_its.ensures.met.apart

pub back_to_in-requires-clause-belong : goal.back_to_in-requires-clause-belong
back_to_in-requires-clause-belong g c =
    let t : OpenTicket = c.lend_its.new.ticket in
    subst (λ (ps : List Part). BelongEach ps t.shares) (sym c.as_mut_slice.ensures.value)
    (belong_each g.N.StoreNames.shares g.N.StoreNames.schema g.N.StoreNames.start c.ticket.inside.waits t (c.lend_its.ensures.ticket c.ticket.inside.waits c.ticket.invariant.0)
    c.lend_its.new.lent.items c.lend_its.ensures.met.kept)

pub back_to_in-requires-clause-covers : goal.back_to_in-requires-clause-covers
back_to_in-requires-clause-covers g c =
    let t : OpenTicket = c.lend_its.new.ticket in
    subst (λ (ps : List Part). Covers ps t.shares) (sym c.as_mut_slice.ensures.value) c.lend_its.ensures.met.covers

pub put_each-requires : goal.put_each-requires
put_each-requires g c =
    let t : OpenTicket = c.lend_its.new.ticket in
    let parts : List Part = c.as_mut_slice.result.now in
    let new : List Part = c.back_to_in.new.parts in
    let value = c.as_mut_slice.ensures.value in
    let back = c.back_to_in.ensures in
    let after : World → World = λ w. done_with w t.number (opened_by t.events) (BackTo c.args.sub) in
    let met = subst (AreMet g.N.StoreNames.shares g.N.StoreNames.schema g.N.StoreNames.start t.shares) (sym value) c.lend_its.ensures.met in
    let fit = subst (FitEach g.N.StoreNames.shares g.N.StoreNames.tables g.N.StoreNames.schema g.N.StoreNames.start c.lend_its.new.guards) (sym value) c.lend_its.ensures.fit in
    subst (FitEach g.N.StoreNames.shares g.N.StoreNames.tables g.N.StoreNames.schema g.N.StoreNames.start c.lend_its.new.guards)
    (sym (with_items_is c.lend_its.new.lent new (back.long ∙ c.as_mut_slice.ensures.len)))
    (fit_again g.N.StoreNames.shares g.N.StoreNames.tables g.N.StoreNames.schema g.N.StoreNames.start c.lend_its.new.guards parts new fit
    (stay_each g.N.StoreNames.shares g.N.StoreNames.schema g.N.StoreNames.start c.ticket.inside.waits t (c.lend_its.ensures.ticket c.ticket.inside.waits c.ticket.invariant.0)
    parts new met after back.parts back.same g.N.StoreNames.tables (λ w runs at. goes_back t.number (opened_by t.events) c.args.sub (after w) at refl) (λ w. refl)
    back.ends back.sound back.long))

pub invariant_of-ticket : goal.invariant_of-ticket
invariant_of-ticket g c =
    let t : OpenTicket = c.lend_its.new.ticket in
    let u : OpenTicket = c.back_to_in.new.ticket in
    let parts : List Part = c.as_mut_slice.result.now in
    let new : List Part = c.back_to_in.new.parts in
    let back = c.back_to_in.ensures in
    let after : World → World = λ w. done_with w t.number (opened_by t.events) (BackTo c.args.sub) in
    let met = subst (AreMet g.N.StoreNames.shares g.N.StoreNames.schema g.N.StoreNames.start t.shares) (sym c.as_mut_slice.ensures.value) c.lend_its.ensures.met in (
      ticket_behind g.N.StoreNames.shares g.N.StoreNames.schema g.N.StoreNames.start c.ticket.inside.waits t (c.lend_its.ensures.ticket c.ticket.inside.waits c.ticket.invariant.0)
          parts new met after back.parts back.same u back.xid back.shares back.stand back.ticket Nowhere (wants_back t u c.args.sub back.events),
      c.put_each.ensures.none,
      λ table share at.
          let had = had_share (share_of t.shares table) (share_of u.shares table) (back.shares table) share at in
          subst (λ n. length g.N.StoreNames.schema ≤ n) (sym c.put_each.ensures.capacity) (c.lend_its.ensures.room table had.0 had.1),
      c.count_one-ticket-inside.ensures ∙ ap one_more (c.ticket.invariant.3 ∙ ap counted (sym c.lend_its.ensures.events))
          ∙ sym (counted_more t.events u.events (BackTo c.args.sub) back.events),
    )

pub returns-clause-events : goal.returns-clause-events
returns-clause-events g c =
    c.back_to_in.ensures.events
    ∙ ap (λ (es : List Event). es ++ Done (BackTo c.args.sub) ∷ []) (c.lend_its.ensures.events ∙ ap (λ (t : OpenTicket). t.events) c.ticket.view_is)

pub returns-clause-xid : goal.returns-clause-xid
returns-clause-xid g c = c.back_to_in.ensures.xid ∙ c.lend_its.ensures.xid ∙ ap (λ (t : OpenTicket). t.number) c.ticket.view_is
