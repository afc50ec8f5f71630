use Rattle.std.proofs.Common.{◌≡◌, ◌++◌, ◌∷◌, ◌∙◌, ℕ, List, Some, sym, ap, subst}
use Rattle.std.specs.Prelude.{IsSomeAnd, slice_get}
use Rattle.std.proofs.lemmas.Option.{slice_get_within}
use Rattle.model.specs.declared.item.Item.{Item}
use Rattle.model.specs.declared.item.Item.TheVariants.{BackTo}
use Rattle.model.specs.Survivors.{survivors, after_item}
use Rattle.world.specs.Steps.{done_with}
use Rattle.savepoint.specs.Savepoints.{before_mark, subs_of}
use Rattle.engine.specs.declared.events.Event.{Event}
use Rattle.engine.specs.Events.{opened_by}
use Rattle.parted_store.specs.Back.{IsRolledBack}
use Rattle.parted_store.specs.BackLemmas.{Drops, drops_are, rolled_by, nothing_rolled, same_rolled, end_rolled, ticket_back, items_back, shares_back}
use Rattle.parted_store.specs.EachPart.{BelongEach, Covers}
use Rattle.parted_store.specs.EachPartLemmas.{some_then}
use Rattle.parted_store.specs.EndLemmas.{none_beside}
use Rattle.parted_store.specs.JournalLemmas.{journal_done}
use Rattle.parted_store.specs.KeepsSoundLemmas.{sound_back}
use Rattle.parted_store.specs.Lent.{OpenTicket, HasTable, HasTicket, IsShare}
use Rattle.parted_store.specs.Shares.{share_of}
use Rattle.parted_store.specs.StandLemmas.{stands_rolled}
use Rattle.parted_store.specs.Ticket.{Places, ticket_in}
use Rattle.parted_store.proofs.back.back_to_in.Goals as goal

pub back_each-requires-clause-belong : goal.back_each-requires-clause-belong
back_each-requires-clause-belong c = subst (λ (t : OpenTicket). BelongEach c.args.parts.now t.shares) (sym c.ticket.view_is) c.requires.belong

module _ (c : goal.After-tell_back) where
  abbrev t : OpenTicket
  t = ticket_in c.ticket.inside

  abbrev marks : List ℕ
  marks = subs_of c.since.result.now

  drops : Drops t.number c.args.sub (survivors t.number (opened_by t.events).items) marks
  drops =
      subst (λ items. Drops t.number c.args.sub items marks) c.ticket.invariant.items
      (drops_are t.number c.args.sub c.ticket.inside.items.items c.since.result.now
      (subst (λ (places : Places). before_mark c.args.sub places ++ c.since.result.now ≡ places) c.ticket.invariant.marks c.since.ensures))

pub invariant_of-ticket : goal.invariant_of-ticket
invariant_of-ticket c = record {
  shares = λ table.
      subst (λ (events : List Event). IsShare (t c).number (opened_by events) table (share_of c.back_each.new.shares.items table)) (sym c.tell_back.ensures)
      (shares_back (t c) c.args.sub c.back_each.new.shares.items c.ticket.invariant.shares c.back_each.ensures.shares table);
  items =
      c.cut_back.ensures.items
      ∙ ap (λ (items : List Item). after_item (t c).number items (BackTo c.args.sub)) c.ticket.invariant.items
      ∙ sym (items_back (t c) c.args.sub)
      ∙ ap (λ (events : List Event). survivors (t c).number (opened_by events).items) (sym c.tell_back.ensures);
  marks = c.cut_back.ensures.marks;
}

pub returns-clause-parts : goal.returns-clause-parts
returns-clause-parts c i p at =
    subst (λ (u : OpenTicket). IsSomeAnd (slice_get c.back_each.new.parts i) (IsRolledBack u c.args.sub p)) c.ticket.view_is
    (some_then (slice_get c.back_each.new.parts i) (c.back_each.ensures.each.done i p (slice_get_within c.args.parts.now i p at) at)
    (λ q did w has its_ticket.
    rolled_by (t c) c.args.sub (marks c) (drops c) p w has its_ticket (share_of (t c).shares p.number) (c.ticket.invariant.shares p.number) q
    (share_of c.back_each.new.shares.items p.number) did))

pub returns-clause-same : goal.returns-clause-same
returns-clause-same c i p at =
    some_then (slice_get c.back_each.new.parts i) (c.back_each.ensures.each.done i p (slice_get_within c.args.parts.now i p at) at)
    (λ q did. same_rolled (c.args.sub ∷ marks c) p q (share_of (t c).shares p.number) (share_of c.back_each.new.shares.items p.number) did)

pub returns-clause-ends : goal.returns-clause-ends
returns-clause-ends c i p at =
    some_then (slice_get c.back_each.new.parts i) (c.back_each.ensures.each.done i p (slice_get_within c.args.parts.now i p at) at)
    (λ q did. end_rolled (c.args.sub ∷ marks c) p q (share_of (t c).shares p.number) (share_of c.back_each.new.shares.items p.number) did)

pub returns-clause-journal : goal.returns-clause-journal
returns-clause-journal c w j has at = journal_done w j has c.args.ticket.now.number (opened_by c.args.ticket.now.events) at (BackTo c.args.sub)

pub returns-clause-ticket : goal.returns-clause-ticket
returns-clause-ticket c w =
    subst (λ (u : OpenTicket). HasTicket w u → HasTicket (done_with w u.number (opened_by u.events) (BackTo c.args.sub))
    (record { number = (t c).number; events = c.tell_back.new.events; shares = c.back_each.new.shares.items })) c.ticket.view_is
    (λ at. ticket_back (t c) c.args.sub w at ∙ ap (λ (events : List Event). Some (opened_by events)) (sym c.tell_back.ensures))

pub returns-clause-beside : goal.returns-clause-beside
returns-clause-beside c w p its_ticket has beside =
    subst (λ (u : OpenTicket). HasTicket w u → HasTable (done_with w u.number (opened_by u.events) (BackTo c.args.sub)) p) c.ticket.view_is
    (λ at. nothing_rolled (t c) c.args.sub (marks c) (drops c) p w has at
    (none_beside c.args.parts.now (t c) c.ticket.invariant.shares (subst (λ (u : OpenTicket). Covers c.args.parts.now u.shares) (sym c.ticket.view_is) c.requires.covers) p.number beside))
    its_ticket

pub returns-clause-long : goal.returns-clause-long
returns-clause-long c = c.back_each.ensures.each.long

pub returns-clause-stand : goal.returns-clause-stand
returns-clause-stand c i p at stood =
    some_then (slice_get c.back_each.new.parts i) (c.back_each.ensures.each.done i p (slice_get_within c.args.parts.now i p at) at)
    (λ q did. stands_rolled p q (c.args.sub ∷ marks c) (t c).shares c.back_each.new.shares.items did)

pub returns-clause-sound : goal.returns-clause-sound
returns-clause-sound c i p at =
    some_then (slice_get c.back_each.new.parts i) (c.back_each.ensures.each.done i p (slice_get_within c.args.parts.now i p at) at)
    (λ q did. sound_back p q c.args.sub (marks c) (share_of (t c).shares p.number) (share_of c.back_each.new.shares.items p.number) did)
