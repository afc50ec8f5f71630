use Rattle.std.proofs.Common.{◌≡◌, ◌++◌, ◌∷◌, [], ◌∙◌, List, Some, sym, ap, subst, length}
use Rattle.std.specs.Prelude.{IsSomeAnd, slice_get, Ok}
use Rattle.std.proofs.lemmas.Option.{slice_get_within}
use Rattle.model.specs.declared.item.Item.{Item}
use Rattle.model.specs.declared.item.Item.TheVariants.{Touch}
use Rattle.model.specs.Survivors.{survivors}
use Rattle.world.specs.Steps.{done_with}
use Rattle.engine.specs.declared.events.Event.{Event}
use Rattle.engine.specs.Events.{opened_by}
use Rattle.parted_store.specs.BackLemmas.{same_rolled, end_rolled}
use Rattle.parted_store.specs.EachPart.{BelongEach}
use Rattle.parted_store.specs.EachPartLemmas.{some_then}
use Rattle.parted_store.specs.JournalLemmas.{journal_done}
use Rattle.parted_store.specs.KeepsSoundLemmas.{sound_back}
use Rattle.parted_store.specs.Lent.{OpenTicket, HasTicket, IsShare}
use Rattle.parted_store.specs.PlaceLemmas.{placed_more}
use Rattle.parted_store.specs.RestLemmas.{touched_by, nothing_touched, ticket_touched, items_touched, shares_touched}
use Rattle.parted_store.specs.Shares.{share_of}
use Rattle.parted_store.specs.StandLemmas.{stands_rolled}
use Rattle.parted_store.specs.Ticket.{ticket_in, with_place, places_of}
use Rattle.parted_store.specs.Touching.{IsTouched}
use Rattle.parted_store.proofs.touching.touch_in.Goals as goal

pub back_each-requires-clause-belong : goal.back_each-requires-clause-belong
back_each-requires-clause-belong c = subst (λ (t : OpenTicket). BelongEach c.args.parts.now t.shares) (sym c.ticket.view_is) c.requires.belong

module _ (c : goal.After-tell_touch) where
  abbrev t : OpenTicket
  t = ticket_in c.ticket.inside

  items_are : c.push_reserved.new.self.items ≡ c.ticket.inside.items.items ++ Touch c.args.sub ∷ []
  items_are = c.push_reserved.ensures.items ∙ ap (λ (items : List Item). items ++ Touch c.args.sub ∷ []) c.make_place.ensures.items

  marks_are : c.make_place.new.marks ≡ places_of t.number c.push_reserved.new.self.items
  marks_are =
      c.in-Ok.ensures.ok
      ∙ ap (with_place t.number c.args.sub (length c.ticket.inside.items.items)) c.ticket.invariant.marks
      ∙ sym (placed_more t.number c.ticket.inside.items.items (Touch c.args.sub))
      ∙ sym (ap (places_of t.number) items_are)

pub invariant_of-ticket-2 : goal.invariant_of-ticket-2
invariant_of-ticket-2 c = record {
  shares = λ table.
      subst (λ (events : List Event). IsShare (t c).number (opened_by events) table (share_of c.back_each.new.shares.items table)) (sym c.tell_touch.ensures)
      (shares_touched (t c) c.args.sub c.back_each.new.shares.items c.ticket.invariant.shares c.back_each.ensures.shares table);
  items =
      items_are c ∙ ap (λ (items : List Item). items ++ Touch c.args.sub ∷ []) c.ticket.invariant.items
      ∙ sym (items_touched (t c) c.args.sub)
      ∙ ap (λ (events : List Event). survivors (t c).number (opened_by events).items) (sym c.tell_touch.ensures);
  marks = marks_are c;
}

pub returns-clause-parts : goal.returns-clause-parts
returns-clause-parts c i p at =
    subst (λ (u : OpenTicket). IsSomeAnd (slice_get c.back_each.new.parts i) (IsTouched u c.args.sub (Ok tt) p)) c.ticket.view_is
    (some_then (slice_get c.back_each.new.parts i) (c.back_each.ensures.each.done i p (slice_get_within c.args.parts.now i p at) at)
    (λ q did w has its_ticket.
    touched_by (t c) c.args.sub p w has its_ticket (share_of (t c).shares p.number) (c.ticket.invariant.shares p.number) q
    (share_of c.back_each.new.shares.items p.number) did))

pub returns-clause-same : goal.returns-clause-same
returns-clause-same c i p at =
    some_then (slice_get c.back_each.new.parts i) (c.back_each.ensures.each.done i p (slice_get_within c.args.parts.now i p at) at)
    (λ q did. same_rolled ((t c).number ∷ []) p q (share_of (t c).shares p.number) (share_of c.back_each.new.shares.items p.number) did)

pub returns-clause-ends : goal.returns-clause-ends
returns-clause-ends c i p at =
    some_then (slice_get c.back_each.new.parts i) (c.back_each.ensures.each.done i p (slice_get_within c.args.parts.now i p at) at)
    (λ q did. end_rolled ((t c).number ∷ []) p q (share_of (t c).shares p.number) (share_of c.back_each.new.shares.items p.number) did)

pub returns-clause-journal : goal.returns-clause-journal
returns-clause-journal c w has at =
    journal_done w c.args.journal.now has c.args.ticket.now.number (opened_by c.args.ticket.now.events) at (Touch c.args.sub)

pub returns-clause-ticket : goal.returns-clause-ticket
returns-clause-ticket c w =
    subst (λ (u : OpenTicket). HasTicket w u → HasTicket (done_with w u.number (opened_by u.events) (Touch c.args.sub))
    (record { number = (t c).number; events = c.tell_touch.new.events; shares = c.back_each.new.shares.items })) c.ticket.view_is
    (λ at. ticket_touched (t c) c.args.sub w at ∙ ap (λ (events : List Event). Some (opened_by events)) (sym c.tell_touch.ensures))

pub returns-clause-beside : goal.returns-clause-beside
returns-clause-beside c w p its_ticket has beside =
    nothing_touched c.args.ticket.now c.args.sub p w has its_ticket (c.requires.waits p.number beside)

pub returns-clause-long : goal.returns-clause-long
returns-clause-long c = c.back_each.ensures.each.long

pub returns-clause-stand : goal.returns-clause-stand
returns-clause-stand c i p at stood =
    some_then (slice_get c.back_each.new.parts i) (c.back_each.ensures.each.done i p (slice_get_within c.args.parts.now i p at) at)
    (λ q did. stands_rolled p q ((t c).number ∷ []) (t c).shares c.back_each.new.shares.items did)

pub returns-clause-sound : goal.returns-clause-sound
returns-clause-sound c i p at =
    some_then (slice_get c.back_each.new.parts i) (c.back_each.ensures.each.done i p (slice_get_within c.args.parts.now i p at) at)
    (λ q did. sound_back p q (t c).number [] (share_of (t c).shares p.number) (share_of c.back_each.new.shares.items p.number) did)

pub returns-clause-left : goal.returns-clause-left
returns-clause-left c table beside =
    subst (λ (u : OpenTicket). share_of c.back_each.new.shares.items table ≡ share_of u.shares table) c.ticket.view_is
    (c.back_each.ensures.each.kept table (λ j p below at. beside j p at))
