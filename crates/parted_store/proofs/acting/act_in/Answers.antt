use Rattle.std.proofs.Common.{◌≡◌, ◌≢◌, ◌++◌, ◌∙◌, ℕ, List, Some, refl, sym, ap, subst}
use Rattle.std.specs.Prelude.{Result, IsSomeAnd, is_some, length, slice_get, not, ◌==◌, ◌||◌, unwrap_or, if◌then◌else◌}
use Rattle.std.specs.FinMap.{get}
use Rattle.std.proofs.lemmas.Option.{same_Some}
use Rattle.model.specs.Survivors.{survivors}
use Rattle.world.specs.World.{Opened, World}
use Rattle.world.specs.Steps.{Fault, Acted}
use Rattle.live_tables.specs.declared.answers.EngineFault.{EngineFault}
use Rattle.live_tables.specs.declared.answers.Verdict.{Verdict}
use Rattle.live_tables.specs.Answers.{after_act}
use Rattle.live_tables.specs.Tried.{Tries, after_try}
use Rattle.engine.specs.declared.events.Event.{Event}
use Rattle.engine.specs.Events.{opened_by, events_of, tried_events}
use Rattle.world_parts.specs.ByTable.{IsIn}
use Rattle.world_parts.specs.Lines.{HasLine}
use Rattle.world_parts.specs.LineLemmas.{line_stays}
use Rattle.world_parts.specs.Marks.{mark_for, HasPart}
use Rattle.table_parts.specs.Part.{Part, last_commit_end}
use Rattle.savepoint.specs.Savepoints.{mark_at, before_mark, latest_sub}
use Rattle.parted_store.specs.Acting.{running, as_told, is_done, items_of, Rests, IsActed}
use Rattle.parted_store.specs.ActLemmas.{try_step, try_part, act_line, in_no_other, ticket_acted, items_acted, shares_acted, tried_there}
use Rattle.parted_store.specs.KeepsSound.{KeepsSound}
use Rattle.parted_store.specs.KeepsSoundLemmas.{sound_tried, sound_rests, clashes_there}
use Rattle.parted_store.specs.Lent.{OpenTicket, HasTable, HasTicket, IsSamePart, IsShare, Stands}
use Rattle.parted_store.specs.RestLemmas.{long_rested, each_rests, same_rested, end_rested, left_rested, share_kept, acted_by, stays_by}
use Rattle.parted_store.specs.JournalLemmas.{journal_tried}
use Rattle.parted_store.specs.Shares.{Share, share_of}
use Rattle.parted_store.specs.PlaceLemmas.{latest_with, placed_acted}
use Rattle.parted_store.specs.StandLemmas.{stands_with, stands_rested}
use Rattle.parted_store.specs.Ticket.{Places, ticket_in, with_place, places_of}
use Rattle.parted_store.proofs.acting.act_in.Goals as goal

module _ (c : goal.After-keep) where
  abbrev t : OpenTicket
  t = ticket_in c.ticket.inside

  abbrev o : Opened
  o = opened_by t.events

  abbrev answer : Result Acted Fault
  answer = as_told c.try_change-answer.result

  -- its share of the part
  found : share_of t.shares c.number-table.result ≡ Some c.in-Some.share
  found = sym c.take_share.ensures.share ∙ c.in-Some.is

  number_is : c.in-Some.share.number ≡ t.number
  number_is = subst (IsShare t.number o c.number-table.result) found (c.ticket.invariant.shares c.number-table.result)

  shares_now : (other : ℕ) → IsShare t.number (opened_by (t.events ++ events_of c.args.sub c.args.c.now answer)) other (share_of c.put_share.new.shares.items other)
  shares_now =
      shares_acted t.number c.args.sub t.events c.args.c.now c.number-table.result (subst (λ n. IsIn n c.args.c.now) (sym c.number-table.ensures) c.requires.its)
      t.shares c.put_share.new.shares.items c.ticket.invariant.shares c.try_change-answer.new.t c.put_share.ensures.share
      (ap (λ u. u.number) c.try_change-answer.ensures.ticket ∙ number_is)
      (λ other apart. c.put_share.ensures.others other apart ∙ c.take_share.ensures.others other apart) answer

  -- what the part did is a step of its world, by the transaction's number
  here : get c.args.part.now.store.world.opened t.number ≡ Some (opened_by c.in-Some.share.list)
  here = subst (λ n. get c.args.part.now.store.world.opened n ≡ Some (opened_by c.in-Some.share.list)) number_is c.try_change-answer.ensures.stood

  abbrev mark : ℕ
  mark = c.latest-mark.result

  in_part : Tries c.args.part.now.store.schema c.args.part.now.store.world t.number (opened_by c.in-Some.share.list) mark c.args.c.now c.try_change-answer.result c.try_change-answer.new.self.store.world
  in_part =
      subst (λ n. Tries c.args.part.now.store.schema c.args.part.now.store.world n (opened_by c.in-Some.share.list) mark c.args.c.now c.try_change-answer.result c.try_change-answer.new.self.store.world)
      number_is c.try_change-answer.ensures.in_part

  -- the mark is the latest one, once the subtransaction's was set
  set_is : c.make_place.new.marks ≡ with_place t.number c.args.sub (length c.ticket.inside.items.items) (places_of t.number c.ticket.inside.items.items)
  set_is = c.in-Ok-make_place.ensures.ok ∙ ap (with_place t.number c.args.sub (length c.ticket.inside.items.items)) c.ticket.invariant.marks

  mark_is : mark ≡ mark_for t.number c.args.sub (survivors t.number o.items)
  mark_is =
      c.latest-mark.ensures ∙ ap (λ (places : Places). unwrap_or (latest_sub places) t.number) set_is
      ∙ latest_with t.number c.args.sub (length c.ticket.inside.items.items) c.ticket.inside.items.items
      ∙ ap (mark_for t.number c.args.sub) c.ticket.invariant.items

  -- and it is taken back where the change wasn't done
  was_set : c.in-Ok-make_place.set ≡ not ((c.args.sub == t.number) || is_some (mark_at c.args.sub (places_of t.number c.ticket.inside.items.items)))
  was_set = c.in-Ok-make_place.ensures.set ∙ ap (λ (places : Places). not ((c.args.sub == t.number) || is_some (mark_at c.args.sub places))) c.ticket.invariant.marks

  marks_are : c.unset_mark.new.marks ≡ places_of t.number c.keep.new.items.items
  marks_are =
      c.unset_mark.ensures
      ∙ ap (λ (places : Places). if not c.in-Ok-make_place.set || is_done answer then places else before_mark c.args.sub places) set_is
      ∙ placed_acted t.number c.args.sub c.ticket.inside.items.items c.args.c.now c.in-Ok-make_place.set was_set answer
      ∙ sym (ap (places_of t.number) (c.keep.ensures ∙ (λ i. c.make_place.ensures.items i ++ items_of c.args.sub (c.in-Ok.ensures i) answer)))

  abbrev later : World → World
  later w = after_act w t.number o c.args.sub c.args.c.now answer

  tried : (w : World) → HasTable w c.args.part.now → HasTicket w t
      → Tries c.args.part.now.store.schema (running w) t.number o c.args.sub c.args.c.now c.try_change-answer.result (after_try (running w) t.number o c.args.sub c.args.c.now c.try_change-answer.result)
  tried w has at =
      try_step c.args.part.now.store.schema c.args.part.now.number w c.args.part.now.store.world has.is t.number o (opened_by c.in-Some.share.list) at here
      c.args.c.now c.requires.its c.args.sub mark c.try_change-answer.result c.try_change-answer.new.self.store.world c.try_change-answer.ensures.fault in_part

  table_after : (w : World) → HasTable w c.args.part.now → HasTicket w t → HasTable (later w) c.try_change-answer.new.self
  table_after w has at = record {
    is =
        subst (λ n. HasPart n (later w) c.try_change-answer.new.self.store.world) (sym c.try_change-answer.ensures.number)
        (try_part c.args.part.now.store.schema c.args.part.now.number w c.args.part.now.store.world has.is t.number o (opened_by c.in-Some.share.list) at here
        c.args.c.now c.requires.its c.args.sub mark mark_is c.try_change-answer.result c.try_change-answer.new.self.store.world in_part);
    line =
        subst (λ n. HasLine n (later w) c.try_change-answer.new.self.store.world) (sym c.try_change-answer.ensures.number)
        (line_stays c.args.part.now.number w (later w) c.args.part.now.store.world c.try_change-answer.new.self.store.world
        (act_line w t.number o c.args.sub c.args.c.now answer) c.try_change-answer.ensures.line has.line);
  }

  -- the parts of other tables
  rests : Rests t.number answer c.args.others.now c.put_share.new.shares.items c.rest_each.new.others c.rest_each.new.shares.items
  rests = c.rest_each.ensures.rests

  same_share : (p : Part) → p.number ≢ c.args.part.now.number → share_of c.put_share.new.shares.items p.number ≡ share_of t.shares p.number
  same_share p apart =
      let beside : p.number ≢ c.number-table.result = λ e. apart (e ∙ c.number-table.ensures) in
      c.put_share.ensures.others p.number beside ∙ c.take_share.ensures.others p.number beside

  other_part : (i : ℕ) (p : Part) → slice_get c.args.others.now i ≡ Some p → IsSomeAnd (slice_get c.rest_each.new.others i) (IsActed t c.args.sub c.args.c.now answer p)
  other_part i p at =
      let apart : p.number ≢ c.args.part.now.number = c.requires.other i p at in
      each_rests t.number answer c.args.others.now c.rest_each.new.others c.put_share.new.shares.items c.rest_each.new.shares.items rests
      (IsActed t c.args.sub c.args.c.now answer p) i p at
      (λ q did w has its_ticket.
      acted_by t c.args.sub c.args.c.now p (in_no_other c.args.part.now.number p.number c.args.c.now c.requires.its apart) w has its_ticket answer
      (share_of c.put_share.new.shares.items p.number)
      (subst (IsShare t.number o p.number) (sym (same_share p apart)) (c.ticket.invariant.shares p.number))
      q (share_of c.rest_each.new.shares.items p.number) did)

  -- the share of its table is left by what is told the parts of others
  new_share : (share : Share) → share_of c.rest_each.new.shares.items c.try_change-answer.new.self.number ≡ Some share → c.try_change-answer.new.t ≡ share
  new_share share there =
      let kept =
      left_rested t.number answer c.args.others.now c.rest_each.new.others c.put_share.new.shares.items c.rest_each.new.shares.items rests c.args.part.now.number
      (λ i p at. c.requires.other i p at) in
      same_Some c.try_change-answer.new.t share
      (sym c.put_share.ensures.share ∙ ap (share_of c.put_share.new.shares.items) c.number-table.ensures ∙ sym kept
      ∙ ap (share_of c.rest_each.new.shares.items) (sym c.try_change-answer.ensures.number) ∙ there)

pub invariant_of-ticket-2 : goal.invariant_of-ticket-2
invariant_of-ticket-2 c = record {
  shares = λ other.
      subst (λ (events : List Event). IsShare (t c).number (opened_by events) other (share_of c.rest_each.new.shares.items other)) (sym c.tell.ensures)
      (share_kept (t c).number (opened_by ((t c).events ++ events_of c.args.sub c.args.c.now (answer c))) other (share_of c.put_share.new.shares.items other) (share_of c.rest_each.new.shares.items other)
      (c.rest_each.ensures.shares other) (shares_now c other));
  items =
      c.keep.ensures
      ∙ (λ i. (c.make_place.ensures.items ∙ c.ticket.invariant.items) i ++ items_of c.args.sub (c.in-Ok.ensures i) (answer c))
      ∙ items_acted (t c).number c.args.sub (t c).events c.args.c.now (answer c)
      ∙ ap (λ (events : List Event). survivors (t c).number (opened_by events).items) (sym c.tell.ensures);
  marks = marks_are c;
}

-- ---- it was tried

pub returns-clause-tries : goal.returns-clause-tries
returns-clause-tries c w has =
    subst (λ (u : OpenTicket). HasTicket w u → Tries c.args.part.now.store.schema (running w) u.number (opened_by u.events) c.args.sub c.args.c.now c.try_change-answer.result
    (after_try (running w) u.number (opened_by u.events) c.args.sub c.args.c.now c.try_change-answer.result)) c.ticket.view_is
    (tried c w has)

pub returns-clause-part : goal.returns-clause-part
returns-clause-part c w has =
    subst (λ (u : OpenTicket). HasTicket w u → HasTable (after_act w u.number (opened_by u.events) c.args.sub c.args.c.now (answer c)) c.try_change-answer.new.self) c.ticket.view_is
    (table_after c w has)

pub returns-clause-its_ticket : goal.returns-clause-its_ticket
returns-clause-its_ticket c w =
    subst (λ (u : OpenTicket). HasTicket w u → HasTicket (after_act w u.number (opened_by u.events) c.args.sub c.args.c.now (answer c))
    (record { number = (t c).number; events = c.tell.new.events; shares = c.rest_each.new.shares.items })) c.ticket.view_is
    (λ at.
    ticket_acted (t c).number c.args.sub (t c).events c.args.c.now w at (answer c)
    ∙ ap (λ (events : List Event). Some (opened_by events)) (sym c.tell.ensures))

pub returns-clause-journal : goal.returns-clause-journal
returns-clause-journal c w j at has =
    journal_tried w j has j c.args.ticket.now.number (opened_by c.args.ticket.now.events) at c.args.sub c.args.c.now c.try_change-answer.result refl

pub returns-clause-beside : goal.returns-clause-beside
returns-clause-beside c w p its_ticket has apart beside =
    stays_by c.args.ticket.now c.args.sub c.args.c.now p (in_no_other c.args.part.now.number p.number c.args.c.now c.requires.its apart) w has its_ticket
    (c.requires.elsewhere p.number apart beside) (answer c)

pub returns-clause-others : goal.returns-clause-others
returns-clause-others c i p at =
    subst (λ (u : OpenTicket). IsSomeAnd (slice_get c.rest_each.new.others i) (IsActed u c.args.sub c.args.c.now (answer c) p)) c.ticket.view_is
    (other_part c i p at)

pub returns-clause-same_others : goal.returns-clause-same_others
returns-clause-same_others c i p at =
    each_rests (t c).number (answer c) c.args.others.now c.rest_each.new.others c.put_share.new.shares.items c.rest_each.new.shares.items (rests c)
    (IsSamePart p) i p at
    (λ q did. same_rested (t c).number (answer c) p (share_of c.put_share.new.shares.items p.number) q (share_of c.rest_each.new.shares.items p.number) did)

pub returns-clause-ends : goal.returns-clause-ends
returns-clause-ends c i p at =
    each_rests (t c).number (answer c) c.args.others.now c.rest_each.new.others c.put_share.new.shares.items c.rest_each.new.shares.items (rests c)
    (λ (q : Part). last_commit_end q ≡ last_commit_end p) i p at
    (λ q did. end_rested (t c).number (answer c) p (share_of c.put_share.new.shares.items p.number) q (share_of c.rest_each.new.shares.items p.number) did)

pub returns-clause-long : goal.returns-clause-long
returns-clause-long c =
    long_rested (t c).number (answer c) c.args.others.now c.rest_each.new.others c.put_share.new.shares.items c.rest_each.new.shares.items (rests c)

pub returns-clause-stands : goal.returns-clause-stands
returns-clause-stands c stood share there =
    subst (λ (s : Share). get c.try_change-answer.new.self.store.world.opened s.number ≡ Some (opened_by s.list)) (new_share c share there)
    (tried_there c.args.part.now.store.world c.in-Some.share (mark c) c.args.c.now c.try_change-answer.ensures.stood c.try_change-answer.result
    c.try_change-answer.new.self.store.world c.try_change-answer.ensures.world c.try_change-answer.new.t c.try_change-answer.ensures.ticket)

pub returns-clause-clash : goal.returns-clause-clash
returns-clause-clash c clash is share there =
    let r = c.try_change-answer in
    clashes_there c.args.part.now r.new.self c.in-Some.share (mark c) c.args.c.now clash
    (subst (λ (a : Result Verdict EngineFault).
    Tries c.args.part.now.store.schema c.args.part.now.store.world c.in-Some.share.number (opened_by c.in-Some.share.list) (mark c) c.args.c.now a r.new.self.store.world)
    is r.ensures.in_part)
    r.ensures.same.schema share
    (sym (new_share c share there)
    ∙ r.ensures.ticket
    ∙ ap (λ (a : Result Verdict EngineFault). record c.in-Some.share { list = c.in-Some.share.list ++ tried_events (mark c) c.args.c.now a }) is)

pub returns-clause-sound : goal.returns-clause-sound
returns-clause-sound c =
    sound_tried c.args.part.now c.try_change-answer.new.self c.in-Some.share.number (opened_by c.in-Some.share.list) (mark c) c.args.c.now
    c.try_change-answer.ensures.stood c.try_change-answer.result c.try_change-answer.ensures.in_part

-- ---- the parts of other tables

pub returns-clause-stand_others : goal.returns-clause-stand_others
returns-clause-stand_others c i p at stood =
    stands_rested (t c).number (answer c) c.args.others.now c.rest_each.new.others c.put_share.new.shares.items c.rest_each.new.shares.items (rests c) i p at
    (stands_with p (t c).shares c.put_share.new.shares.items (same_share c p (c.requires.other i p at))
    (subst (λ (u : OpenTicket). Stands p u.shares) (sym c.ticket.view_is) stood))

pub returns-clause-sound_others : goal.returns-clause-sound_others
returns-clause-sound_others c i p at =
    each_rests (t c).number (answer c) c.args.others.now c.rest_each.new.others c.put_share.new.shares.items c.rest_each.new.shares.items (rests c)
    (KeepsSound p) i p at
    (λ q did. sound_rests p q (t c).number (answer c) (share_of c.put_share.new.shares.items p.number) (share_of c.rest_each.new.shares.items p.number) did)
