use Rattle.std.proofs.Common.{true, false, ◌≡◌, ◌≢◌, ◌++◌, ◌∙◌, ℕ, List, append-nil, Some, None, refl, sym, ap, subst, inl}
use Rattle.std.specs.Prelude.{Option, Result, Ok, IsSome, IsSomeAnd, slice_get}
use Rattle.std.specs.FinMap.{get}
use Rattle.std.proofs.lemmas.Option.{same_Some}
use Rattle.model.specs.Effect.{ClashCause}
use Rattle.model.specs.Survivors.{survivors}
use Rattle.world.specs.World.{Opened, ByClash, World}
use Rattle.world.specs.Steps.{Fault, Acted, Clashed, wanting}
use Rattle.live_tables.specs.Answers.{cause_of, told_clash, stop_for, after_act}
use Rattle.live_tables.specs.Tried.{HasClash}
use Rattle.engine.specs.declared.events.Event.{Event}
use Rattle.engine.specs.Events.{opened_by, events_of}
use Rattle.world_parts.specs.ByTable.{IsIn}
use Rattle.world_parts.specs.Lines.{HasLine}
use Rattle.world_parts.specs.LineLemmas.{line_stays}
use Rattle.world_parts.specs.Marks.{HasPart}
use Rattle.table_parts.specs.Part.{Part, last_commit_end}
use Rattle.parted_store.specs.Acting.{Rests, IsActed}
use Rattle.parted_store.specs.ActLemmas.{clash_part, act_line, in_no_other, ticket_acted, items_acted, shares_acted, wants_there}
use Rattle.parted_store.specs.JournalLemmas.{journal_clashed}
use Rattle.parted_store.specs.KeepsSound.{KeepsSound, StopsSound}
use Rattle.parted_store.specs.KeepsSoundLemmas.{sound_stopped, sound_rests}
use Rattle.parted_store.specs.Lent.{OpenTicket, HasTable, HasJournal, HasTicket, IsSamePart, IsShare, Stands}
use Rattle.parted_store.specs.RestLemmas.{each_rests, same_rested, end_rested, left_rested, share_kept, acted_by, stays_by}
use Rattle.parted_store.specs.Shares.{Share, share_of}
use Rattle.parted_store.specs.StandLemmas.{stands_with, stands_rested}
use Rattle.parted_store.specs.Ticket.{ticket_in}
use Rattle.parted_store.proofs.clashing.clash_in.Goals as goal

-- why it clashes
some_cause : (found : Option ClashCause) → IsSome found → (cause : ClashCause) × (found ≡ Some cause)
some_cause None some = let no : false ≡ true = some in cc
some_cause (Some cause) some = (cause, refl)

module _ (c : goal.After-stop_by_clash) where
  abbrev t : OpenTicket
  t = ticket_in c.ticket.inside

  abbrev o : Opened
  o = opened_by t.events

  abbrev cause : ClashCause
  cause = (some_cause (cause_of c.args.clash) c.requires.cause).0

  abbrev answer : Result Acted Fault
  answer = Ok (Clashed cause)

  told_is : told_clash (cause_of c.args.clash) ≡ answer
  told_is = ap told_clash (some_cause (cause_of c.args.clash) c.requires.cause).1

  -- its share of the part
  found : share_of t.shares c.number-table.result ≡ Some c.in-Some.share
  found = sym c.take_share.ensures.share ∙ c.in-Some.is

  number_is : c.in-Some.share.number ≡ t.number
  number_is = subst (IsShare t.number o c.number-table.result) found (c.ticket.invariant.shares c.number-table.result)

  shares_now : (other : ℕ) → IsShare t.number (opened_by (t.events ++ events_of c.args.sub c.args.c.now answer)) other (share_of c.put_share.new.shares.items other)
  shares_now =
      shares_acted t.number c.args.sub t.events c.args.c.now c.number-table.result (subst (λ n. IsIn n c.args.c.now) (sym c.number-table.ensures) c.requires.its)
      t.shares c.put_share.new.shares.items c.ticket.invariant.shares c.wait_with.new.t c.put_share.ensures.share
      (ap (λ u. u.number) c.wait_with.ensures.ticket ∙ number_is)
      (λ other apart. c.put_share.ensures.others other apart ∙ c.take_share.ensures.others other apart) answer

  here : get c.args.part.now.store.world.opened t.number ≡ Some (opened_by c.in-Some.share.list)
  here = subst (λ n. get c.args.part.now.store.world.opened n ≡ Some (opened_by c.in-Some.share.list)) number_is c.wait_with.ensures.stood

  -- the part's world wants it
  waits : c.wait_with.new.self.store.world ≡ wanting c.args.part.now.store.world t.number (opened_by c.in-Some.share.list) c.latest-mark.result c.args.c.now
  waits =
      c.wait_with.ensures.in_part
      ∙ (λ i. wanting c.args.part.now.store.world (number_is i) (opened_by c.in-Some.share.list) c.latest-mark.result (c.in-Ok.ensures i))

  -- and the change clashes there, as its caller knows
  clashes : HasClash c.args.part.now.store.schema c.args.part.now.store.world t.number (opened_by c.in-Some.share.list) c.args.c.now c.args.clash
  clashes =
      subst (λ n. HasClash c.args.part.now.store.schema c.args.part.now.store.world n (opened_by c.in-Some.share.list) c.args.c.now c.args.clash) number_is
      (c.requires.clashes c.in-Some.share
      (subst (λ (u : OpenTicket). share_of u.shares c.args.part.now.number ≡ Some c.in-Some.share) c.ticket.view_is
      (ap (share_of t.shares) (sym c.number-table.ensures) ∙ found)))

  abbrev later : World → World
  later w = after_act w t.number o c.args.sub c.args.c.now answer

  table_after : (w : World) → HasTable w c.args.part.now → HasTicket w t → HasTable (later w) c.wait_with.new.self
  table_after w has at = record {
    is =
        subst (λ n. HasPart n (later w) c.wait_with.new.self.store.world) (sym c.wait_with.ensures.number)
        (clash_part c.args.part.now.store.schema c.args.part.now.number w c.args.part.now.store.world has.is t.number o (opened_by c.in-Some.share.list) at here
        c.args.c.now c.requires.its c.args.sub c.latest-mark.result cause c.wait_with.new.self.store.world waits);
    line =
        subst (λ n. HasLine n (later w) c.wait_with.new.self.store.world) (sym c.wait_with.ensures.number)
        (line_stays c.args.part.now.number w (later w) c.args.part.now.store.world c.wait_with.new.self.store.world
        (act_line w t.number o c.args.sub c.args.c.now answer)
        (record { start = ap (λ (v : World). v.start) waits; line = ap (λ (v : World). v.line) waits }) has.line);
  }

  journal_after : (w : World) → HasJournal w c.args.journal.now → HasTicket w t → HasJournal (later w) c.stop_by_clash.new.self
  journal_after w has at =
      journal_clashed w c.args.journal.now has c.stop_by_clash.new.self t.number o at c.args.sub c.args.c.now cause
      (c.stop_by_clash.ensures ∙ stop_is)
    where
      stop_is : record c.args.journal.now { stopped = stop_for t.number c.in-Ok-copy.noted (cause_of c.args.clash) }
          ≡ record c.args.journal.now { stopped = Some (ByClash t.number c.args.c.now cause) }
      stop_is i = record c.args.journal.now { stopped = stop_for t.number (c.in-Ok-copy.ensures i) ((some_cause (cause_of c.args.clash) c.requires.cause).1 i) }

  -- the parts of other tables
  rests : Rests t.number answer c.args.others.now c.put_share.new.shares.items c.back_each.new.parts c.back_each.new.shares.items
  rests = c.back_each.ensures.each

  same_share : (p : Part) → p.number ≢ c.args.part.now.number → share_of c.put_share.new.shares.items p.number ≡ share_of t.shares p.number
  same_share p apart =
      let beside : p.number ≢ c.number-table.result = λ e. apart (e ∙ c.number-table.ensures) in
      c.put_share.ensures.others p.number beside ∙ c.take_share.ensures.others p.number beside

  other_part : (i : ℕ) (p : Part) → slice_get c.args.others.now i ≡ Some p → IsSomeAnd (slice_get c.back_each.new.parts i) (IsActed t c.args.sub c.args.c.now answer p)
  other_part i p at =
      let apart : p.number ≢ c.args.part.now.number = c.requires.other i p at in
      each_rests t.number answer c.args.others.now c.back_each.new.parts c.put_share.new.shares.items c.back_each.new.shares.items rests
      (IsActed t c.args.sub c.args.c.now answer p) i p at
      (λ q did w has its_ticket.
      acted_by t c.args.sub c.args.c.now p (in_no_other c.args.part.now.number p.number c.args.c.now c.requires.its apart) w has its_ticket answer
      (share_of c.put_share.new.shares.items p.number)
      (subst (IsShare t.number o p.number) (sym (same_share p apart)) (c.ticket.invariant.shares p.number))
      q (share_of c.back_each.new.shares.items p.number) did)

pub invariant_of-ticket : goal.invariant_of-ticket
invariant_of-ticket c = record {
  shares = λ other.
      subst (λ (events : List Event). IsShare (t c).number (opened_by events) other (share_of c.back_each.new.shares.items other)) (sym c.tell_wanted.ensures)
      (share_kept (t c).number (opened_by ((t c).events ++ events_of c.args.sub c.args.c.now (answer c))) other (share_of c.put_share.new.shares.items other) (share_of c.back_each.new.shares.items other)
      (c.back_each.ensures.shares other) (shares_now c other));
  items =
      c.ticket.invariant.items ∙ sym (append-nil (survivors (t c).number (opened_by (t c).events).items))
      ∙ items_acted (t c).number c.args.sub (t c).events c.args.c.now (answer c)
      ∙ ap (λ (events : List Event). survivors (t c).number (opened_by events).items) (sym c.tell_wanted.ensures);
  marks = c.ticket.invariant.marks;
}

-- ---- it stops the store

pub returns-clause-part : goal.returns-clause-part
returns-clause-part c w has =
    subst (λ (u : OpenTicket). HasTicket w u → HasTable (after_act w u.number (opened_by u.events) c.args.sub c.args.c.now (told_clash (cause_of c.args.clash))) c.wait_with.new.self) c.ticket.view_is
    (λ at. subst (λ (a : Result Acted Fault). HasTable (after_act w (t c).number (o c) c.args.sub c.args.c.now a) c.wait_with.new.self) (sym (told_is c)) (table_after c w has at))

pub returns-clause-journal : goal.returns-clause-journal
returns-clause-journal c w has =
    subst (λ (u : OpenTicket). HasTicket w u → HasJournal (after_act w u.number (opened_by u.events) c.args.sub c.args.c.now (told_clash (cause_of c.args.clash))) c.stop_by_clash.new.self) c.ticket.view_is
    (λ at. subst (λ (a : Result Acted Fault). HasJournal (after_act w (t c).number (o c) c.args.sub c.args.c.now a) c.stop_by_clash.new.self) (sym (told_is c)) (journal_after c w has at))

pub returns-clause-its_ticket : goal.returns-clause-its_ticket
returns-clause-its_ticket c w =
    subst (λ (u : OpenTicket). HasTicket w u → HasTicket (after_act w u.number (opened_by u.events) c.args.sub c.args.c.now (told_clash (cause_of c.args.clash)))
    (record { number = (t c).number; events = c.tell_wanted.new.events; shares = c.back_each.new.shares.items })) c.ticket.view_is
    (λ at.
    subst (λ (a : Result Acted Fault). HasTicket (after_act w (t c).number (o c) c.args.sub c.args.c.now a) (record { number = (t c).number; events = c.tell_wanted.new.events; shares = c.back_each.new.shares.items }))
    (sym (told_is c))
    (ticket_acted (t c).number c.args.sub (t c).events c.args.c.now w at (answer c)
    ∙ ap (λ (events : List Event). Some (opened_by events)) (sym c.tell_wanted.ensures)))

pub returns-clause-ticket : goal.returns-clause-ticket
returns-clause-ticket c =
    subst (λ (u : OpenTicket). c.tell_wanted.new.events ≡ u.events ++ events_of c.args.sub c.args.c.now (told_clash (cause_of c.args.clash))) c.ticket.view_is
    (c.tell_wanted.ensures ∙ ap (λ (a : Result Acted Fault). (t c).events ++ events_of c.args.sub c.args.c.now a) (sym (told_is c)))

pub returns-clause-beside : goal.returns-clause-beside
returns-clause-beside c w p its_ticket has apart beside =
    stays_by c.args.ticket.now c.args.sub c.args.c.now p (in_no_other c.args.part.now.number p.number c.args.c.now c.requires.its apart) w has its_ticket
    (c.requires.elsewhere p.number apart beside) (told_clash (cause_of c.args.clash))

pub returns-clause-others : goal.returns-clause-others
returns-clause-others c i p at =
    subst (λ (u : OpenTicket). IsSomeAnd (slice_get c.back_each.new.parts i) (IsActed u c.args.sub c.args.c.now (told_clash (cause_of c.args.clash)) p)) c.ticket.view_is
    (subst (λ (a : Result Acted Fault). IsSomeAnd (slice_get c.back_each.new.parts i) (IsActed (t c) c.args.sub c.args.c.now a p)) (sym (told_is c)) (other_part c i p at))

pub returns-clause-same_others : goal.returns-clause-same_others
returns-clause-same_others c i p at =
    each_rests (t c).number (answer c) c.args.others.now c.back_each.new.parts c.put_share.new.shares.items c.back_each.new.shares.items (rests c)
    (IsSamePart p) i p at
    (λ q did. same_rested (t c).number (answer c) p (share_of c.put_share.new.shares.items p.number) q (share_of c.back_each.new.shares.items p.number) did)

pub returns-clause-ends : goal.returns-clause-ends
returns-clause-ends c i p at =
    each_rests (t c).number (answer c) c.args.others.now c.back_each.new.parts c.put_share.new.shares.items c.back_each.new.shares.items (rests c)
    (λ (q : Part). last_commit_end q ≡ last_commit_end p) i p at
    (λ q did. end_rested (t c).number (answer c) p (share_of c.put_share.new.shares.items p.number) q (share_of c.back_each.new.shares.items p.number) did)

pub returns-clause-fault : goal.returns-clause-fault
returns-clause-fault c = inl refl

pub returns-clause-long : goal.returns-clause-long
returns-clause-long c = c.back_each.ensures.each.long

-- the share of its table is left by what is told the parts of others
pub returns-clause-stands : goal.returns-clause-stands
returns-clause-stands c stood share there =
    let table = c.args.part.now.number in
    let kept =
    left_rested (t c).number (answer c) c.args.others.now c.back_each.new.parts c.put_share.new.shares.items c.back_each.new.shares.items (rests c) table
    (λ i p at. c.requires.other i p at) in
    let same : Some c.wait_with.new.t ≡ Some share =
    sym c.put_share.ensures.share ∙ ap (share_of c.put_share.new.shares.items) c.number-table.ensures ∙ sym kept ∙ ap (share_of c.back_each.new.shares.items) (sym c.wait_with.ensures.number) ∙ there in
    subst (λ (s : Share). get c.wait_with.new.self.store.world.opened s.number ≡ Some (opened_by s.list)) (same_Some c.wait_with.new.t share same)
    (wants_there c.args.part.now.store.world c.in-Some.share c.latest-mark.result c.in-Ok.wanted c.wait_with.ensures.stood c.wait_with.new.self.store.world
    c.wait_with.ensures.in_part c.wait_with.new.t c.wait_with.ensures.ticket)

pub returns-clause-sound : goal.returns-clause-sound
returns-clause-sound c is =
    subst (λ (u : OpenTicket). StopsSound u.number c.args.c.now c.args.clash c.args.part.now c.wait_with.new.self) c.ticket.view_is
    (sound_stopped c.args.part.now c.wait_with.new.self (t c).number (opened_by c.in-Some.share.list) c.latest-mark.result c.args.c.now c.args.clash (here c)
    (clashes c) (waits c))

-- ---- the parts of other tables

pub returns-clause-stand_others : goal.returns-clause-stand_others
returns-clause-stand_others c i p at stood =
    stands_rested (t c).number (answer c) c.args.others.now c.back_each.new.parts c.put_share.new.shares.items c.back_each.new.shares.items (rests c) i p at
    (stands_with p (t c).shares c.put_share.new.shares.items (same_share c p (c.requires.other i p at))
    (subst (λ (u : OpenTicket). Stands p u.shares) (sym c.ticket.view_is) stood))

pub returns-clause-sound_others : goal.returns-clause-sound_others
returns-clause-sound_others c i p at =
    each_rests (t c).number (answer c) c.args.others.now c.back_each.new.parts c.put_share.new.shares.items c.back_each.new.shares.items (rests c)
    (KeepsSound p) i p at
    (λ q did. sound_rests p q (t c).number (answer c) (share_of c.put_share.new.shares.items p.number) (share_of c.back_each.new.shares.items p.number) did)
