use Rattle.std.proofs.Common.{◌≡◌, ◌++◌, ◌∷◌, [], ◌∙◌, ℕ, List, Some, None, refl, sym, ap, subst}
use Rattle.std.specs.Prelude.{Result, Ok, Err, IfErr, IsSome, IsSomeAnd, is_some, length, slice_get, not, ◌==◌, ◌||◌, unwrap_or, if◌then◌else◌}
use Rattle.std.proofs.lemmas.Bool.{false≢true}
use Rattle.model.specs.Survivors.{survivors}
use Rattle.model.specs.declared.cell.Cell.TheVariants.{Whole}
use Rattle.world.specs.World.{Opened, World, IsFree}
use Rattle.world.specs.Steps.{Fault, Acted}
use Rattle.live_tables.specs.declared.answers.EngineFault.{EngineFault}
use Rattle.live_tables.specs.declared.answers.EngineFault.TheVariants.{OutOfMemory as NoMemory}
use Rattle.live_tables.specs.declared.answers.Verdict.{Verdict}
use Rattle.live_tables.specs.declared.answers.Verdict.TheVariants.{Acted as ActedVerdict, Clashes}
use Rattle.live_tables.specs.Answers.{after_act, TellsVerdict, IsNoClash}
use Rattle.live_tables.specs.Tried.{Tries, after_try}
use Rattle.engine.specs.declared.events.Event.{Event}
use Rattle.engine.specs.Events.{opened_by, events_of}
use Rattle.world_parts.specs.Marks.{mark_for}
use Rattle.table_parts.specs.Part.{Part, last_commit_end}
use Rattle.savepoint.specs.Savepoints.{mark_at, before_mark, latest_sub}
use Rattle.parted_store.specs.Acting.{running, as_told, is_done, items_of, Rests, IsActed}
use Rattle.parted_store.specs.ActLemmas.{ticket_acted, items_acted}
use Rattle.parted_store.specs.CutLemmas.{cut_beside}
use Rattle.parted_store.specs.Back.{IsSameShare}
use Rattle.parted_store.specs.EachPart.{IsBeside}
use Rattle.parted_store.specs.HasCutLemmas.{same_again, shares_left, share_needed, shares_kept, long_truncated, free_truncated, tells_truncated, part_cut, acts_cut}
use Rattle.parted_store.specs.KeepsSound.{KeepsSound}
use Rattle.parted_store.specs.KeepsSoundLemmas.{sound_truncated, sound_rests}
use Rattle.parted_store.specs.Lent.{OpenTicket, HasTable, HasTicket, IsSamePart, IsShare, Stands}
use Rattle.parted_store.specs.RestLemmas.{long_rested, each_rests, same_rested, end_rested, left_rested, share_kept, acted_by, stays_by}
use Rattle.parted_store.specs.JournalLemmas.{journal_tried}
use Rattle.parted_store.specs.Shares.{Shares, share_of}
use Rattle.parted_store.specs.PlaceLemmas.{latest_with, placed_acted}
use Rattle.parted_store.specs.StandLemmas.{stands_with, stands_rested, stands_truncated}
use Rattle.parted_store.specs.Ticket.{Places, ticket_in, with_place, places_of}
use Rattle.parted_store.specs.Truncating.{HasTruncated, TellsTruncate, CutsHere}
use Rattle.parted_store.proofs.truncating.truncate_in.Goals as goal

module _ (c : goal.After-keep) where
  abbrev t : OpenTicket
  t = ticket_in c.ticket.inside

  abbrev o : Opened
  o = opened_by t.events

  abbrev answer : Result Acted Fault
  answer = as_told c.truncate_each-answer.result

  abbrev mark : ℕ
  mark = c.latest-mark.result

  -- it is the latest one, once the subtransaction's was set
  set_is : c.make_place.new.marks ≡ with_place t.number c.args.sub (length c.ticket.inside.items.items) (places_of t.number c.ticket.inside.items.items)
  set_is = c.in-Ok-make_place.ensures.ok ∙ ap (with_place t.number c.args.sub (length c.ticket.inside.items.items)) c.ticket.invariant.marks

  mark_is : mark ≡ mark_for t.number c.args.sub (survivors t.number o.items)
  mark_is =
      c.latest-mark.ensures ∙ ap (λ (places : Places). unwrap_or (latest_sub places) t.number) set_is
      ∙ latest_with t.number c.args.sub (length c.ticket.inside.items.items) c.ticket.inside.items.items
      ∙ ap (mark_for t.number c.args.sub) c.ticket.invariant.items

  -- and it is taken back where the truncate wasn't done
  was_set : c.in-Ok-make_place.set ≡ not ((c.args.sub == t.number) || is_some (mark_at c.args.sub (places_of t.number c.ticket.inside.items.items)))
  was_set = c.in-Ok-make_place.ensures.set ∙ ap (λ (places : Places). not ((c.args.sub == t.number) || is_some (mark_at c.args.sub places))) c.ticket.invariant.marks

  marks_are : c.unset_mark.new.marks ≡ places_of t.number c.keep.new.items.items
  marks_are =
      c.unset_mark.ensures
      ∙ ap (λ (places : Places). if not c.in-Ok-make_place.set || is_done answer then places else before_mark c.args.sub places) set_is
      ∙ placed_acted t.number c.args.sub c.ticket.inside.items.items c.args.c.now c.in-Ok-make_place.set was_set answer
      ∙ sym (ap (places_of t.number) (c.keep.ensures ∙ (λ i. c.make_place.ensures.items i ++ items_of c.args.sub (c.in-Ok.ensures i) answer)))

  abbrev later : World → World
  later w = after_act w t.number o c.args.sub c.args.c.now answer

  came : HasTruncated mark c.args.parts.now t.shares c.truncate_each-answer.result c.truncate_each-answer.new.parts c.truncate_each-answer.new.shares.items
  came = c.truncate_each-answer.ensures

  abbrev here : CutsHere c.args.c.now c.requires.truncate.0 c.args.parts.now
  here = c.requires.truncate.1

  -- its shares
  left_by_parts : (table : ℕ) → IsBeside c.args.parts.now table → share_of c.truncate_each-answer.new.shares.items table ≡ share_of t.shares table
  left_by_parts =
      shares_left mark c.args.parts.now t.shares c.truncate_each-answer.new.parts c.truncate_each-answer.new.shares.items c.truncate_each-answer.result came

  shares_now : (table : ℕ) → IsShare t.number (opened_by (t.events ++ events_of c.args.sub c.args.c.now answer)) table (share_of c.truncate_each-answer.new.shares.items table)
  shares_now table =
      share_needed t.number c.args.sub t.events c.args.c.now c.truncate_each-answer.result table (share_of t.shares table) (share_of c.truncate_each-answer.new.shares.items table)
      (c.ticket.invariant.shares table)
      (shares_kept mark c.args.parts.now t.shares c.truncate_each-answer.new.parts c.truncate_each-answer.new.shares.items c.truncate_each-answer.result came table)
      (λ none. cut_beside c.args.c.now c.requires.truncate.0 c.args.parts.now here table (has_none none))
    where
      has_none : share_of t.shares table ≡ None → IsBeside c.args.parts.now table
      has_none none i p there is =
          absurd (false≢true (ap is_some (sym none ∙ ap (share_of t.shares) (sym is)) ∙ subst (λ (u : OpenTicket). IsSome (share_of u.shares p.number)) (sym c.ticket.view_is) (c.requires.shares i p there)))

  -- the parts of other tables
  rests : Rests t.number answer c.args.others.now c.truncate_each-answer.new.shares.items c.rest_each.new.others c.rest_each.new.shares.items
  rests = c.rest_each.ensures.rests

  apart_from : (i : ℕ) (p : Part) → slice_get c.args.others.now i ≡ Some p → IsBeside c.args.parts.now p.number
  apart_from i p at j q there is = c.requires.other j q there i p at (sym is)

  other_part : (i : ℕ) (p : Part) → slice_get c.args.others.now i ≡ Some p → IsSomeAnd (slice_get c.rest_each.new.others i) (IsActed t c.args.sub c.args.c.now answer p)
  other_part i p at =
      each_rests t.number answer c.args.others.now c.rest_each.new.others c.truncate_each-answer.new.shares.items c.rest_each.new.shares.items rests
      (IsActed t c.args.sub c.args.c.now answer p) i p at
      (λ q did w has its_ticket.
      acted_by t c.args.sub c.args.c.now p (cut_beside c.args.c.now c.requires.truncate.0 c.args.parts.now here p.number (apart_from i p at)) w has its_ticket answer
      (share_of c.truncate_each-answer.new.shares.items p.number)
      (subst (IsShare t.number o p.number) (sym (left_by_parts p.number (apart_from i p at))) (c.ticket.invariant.shares p.number))
      q (share_of c.rest_each.new.shares.items p.number) did)

pub invariant_of-ticket-2 : goal.invariant_of-ticket-2
invariant_of-ticket-2 c = record {
  shares = λ other.
      subst (λ (events : List Event). IsShare (t c).number (opened_by events) other (share_of c.rest_each.new.shares.items other)) (sym c.tell.ensures)
      (share_kept (t c).number (opened_by ((t c).events ++ events_of c.args.sub c.args.c.now (answer c))) other (share_of c.truncate_each-answer.new.shares.items other) (share_of c.rest_each.new.shares.items other)
      (c.rest_each.ensures.shares other) (shares_now c other));
  items =
      c.keep.ensures
      ∙ (λ i. (c.make_place.ensures.items ∙ c.ticket.invariant.items) i ++ items_of c.args.sub (c.in-Ok.ensures i) (answer c))
      ∙ items_acted (t c).number c.args.sub (t c).events c.args.c.now (answer c)
      ∙ ap (λ (events : List Event). survivors (t c).number (opened_by events).items) (sym c.tell.ensures);
  marks = marks_are c;
}

-- ---- it was tried

pub returns-clause-tries : goal.returns-clause-tries
returns-clause-tries c w schema have =
    subst (λ (u : OpenTicket). HasTicket w u → Tries schema (running w) u.number (opened_by u.events) c.args.sub c.args.c.now c.truncate_each-answer.result
    (after_try (running w) u.number (opened_by u.events) c.args.sub c.args.c.now c.truncate_each-answer.result)) c.ticket.view_is
    (λ at.
    acts_cut (t c) c.ticket.invariant.shares c.args.sub c.args.c.now c.requires.truncate.0 c.args.parts.now (here c) w at (mark c)
    c.truncate_each-answer.new.parts c.truncate_each-answer.new.shares.items schema have c.truncate_each-answer.result (came c))

-- a truncate clashes with nothing, and memory alone refuses it
told_so : (own : ℕ) (start : List Part) (all : Shares) (result : Result Verdict EngineFault) (parts : List Part) (shares : Shares) → HasTruncated own start all result parts shares
    → TellsVerdict result × IfErr result (λ (fault : EngineFault). fault ≡ NoMemory)
told_so own start all (Ok (ActedVerdict acted)) parts shares is = (tt, tt)
told_so own start all (Ok (Clashes clash)) parts shares is = absurd is
told_so own start all (Err fault) parts shares is = (subst IsNoClash (sym is.0) tt, is.0)

pub returns-clause-cause : goal.returns-clause-cause
returns-clause-cause c =
    (told_so (mark c) c.args.parts.now (t c).shares c.truncate_each-answer.result c.truncate_each-answer.new.parts c.truncate_each-answer.new.shares.items (came c)).0

pub returns-clause-fault : goal.returns-clause-fault
returns-clause-fault c =
    (told_so (mark c) c.args.parts.now (t c).shares c.truncate_each-answer.result c.truncate_each-answer.new.parts c.truncate_each-answer.new.shares.items (came c)).1

pub returns-clause-parts : goal.returns-clause-parts
returns-clause-parts c w its_ticket i p there has =
    subst (λ (u : OpenTicket). HasTicket w u
    → IsSomeAnd (slice_get c.truncate_each-answer.new.parts i) (HasTable (after_act w u.number (opened_by u.events) c.args.sub c.args.c.now (answer c)))) c.ticket.view_is
    (λ at.
    part_cut (t c) c.ticket.invariant.shares c.args.sub c.args.c.now c.requires.truncate.0 c.args.parts.now (here c) w at (mark c)
    c.truncate_each-answer.new.parts c.truncate_each-answer.new.shares.items i p there has (mark_is c) c.truncate_each-answer.result (came c)) its_ticket

pub returns-clause-its_ticket : goal.returns-clause-its_ticket
returns-clause-its_ticket c w its_ticket =
    subst (λ (u : OpenTicket). HasTicket w u → HasTicket (after_act w u.number (opened_by u.events) c.args.sub c.args.c.now (answer c))
    (record { number = (t c).number; events = c.tell.new.events; shares = c.rest_each.new.shares.items })) c.ticket.view_is
    (λ at.
    ticket_acted (t c).number c.args.sub (t c).events c.args.c.now w at (answer c)
    ∙ ap (λ (events : List Event). Some (opened_by events)) (sym c.tell.ensures)) its_ticket

pub returns-clause-journal : goal.returns-clause-journal
returns-clause-journal c w j at has =
    journal_tried w j has j c.args.ticket.now.number (opened_by c.args.ticket.now.events) at c.args.sub c.args.c.now c.truncate_each-answer.result refl

pub returns-clause-beside : goal.returns-clause-beside
returns-clause-beside c w p its_ticket has apart beside =
    stays_by c.args.ticket.now c.args.sub c.args.c.now p (cut_beside c.args.c.now c.requires.truncate.0 c.args.parts.now (here c) p.number apart) w has its_ticket
    (c.requires.elsewhere p.number apart beside) (answer c)

pub returns-clause-others : goal.returns-clause-others
returns-clause-others c i p at =
    subst (λ (u : OpenTicket). IsSomeAnd (slice_get c.rest_each.new.others i) (IsActed u c.args.sub c.args.c.now (answer c) p)) c.ticket.view_is
    (other_part c i p at)

pub returns-clause-same_others : goal.returns-clause-same_others
returns-clause-same_others c i p at =
    each_rests (t c).number (answer c) c.args.others.now c.rest_each.new.others c.truncate_each-answer.new.shares.items c.rest_each.new.shares.items (rests c)
    (IsSamePart p) i p at
    (λ q did. same_rested (t c).number (answer c) p (share_of c.truncate_each-answer.new.shares.items p.number) q (share_of c.rest_each.new.shares.items p.number) did)

pub returns-clause-ends : goal.returns-clause-ends
returns-clause-ends c i p at =
    each_rests (t c).number (answer c) c.args.others.now c.rest_each.new.others c.truncate_each-answer.new.shares.items c.rest_each.new.shares.items (rests c)
    (λ (q : Part). last_commit_end q ≡ last_commit_end p) i p at
    (λ q did. end_rested (t c).number (answer c) p (share_of c.truncate_each-answer.new.shares.items p.number) q (share_of c.rest_each.new.shares.items p.number) did)

pub returns-clause-shares : goal.returns-clause-shares
returns-clause-shares c table =
    subst (λ (u : OpenTicket). IsSameShare (share_of u.shares table) (share_of c.rest_each.new.shares.items table)) c.ticket.view_is
    (same_again (share_of (t c).shares table) (share_of c.truncate_each-answer.new.shares.items table) (share_of c.rest_each.new.shares.items table)
    (shares_kept (mark c) c.args.parts.now (t c).shares c.truncate_each-answer.new.parts c.truncate_each-answer.new.shares.items c.truncate_each-answer.result (came c) table)
    (c.rest_each.ensures.shares table))

pub returns-clause-long : goal.returns-clause-long
returns-clause-long c =
    long_truncated (mark c) c.args.parts.now (t c).shares c.truncate_each-answer.new.parts c.truncate_each-answer.new.shares.items c.truncate_each-answer.result (came c)

pub returns-clause-long_others : goal.returns-clause-long_others
returns-clause-long_others c =
    long_rested (t c).number (answer c) c.args.others.now c.rest_each.new.others c.truncate_each-answer.new.shares.items c.rest_each.new.shares.items (rests c)

pub returns-clause-free : goal.returns-clause-free
returns-clause-free c done i p there =
    subst (λ (u : OpenTicket). IsFree p.store.schema p.store.world u.number (Whole p.number ∷ [])) c.ticket.view_is
    (free_truncated (t c) c.ticket.invariant.shares (mark c) c.args.parts.now c.truncate_each-answer.new.parts c.truncate_each-answer.new.shares.items
    c.truncate_each-answer.result (came c) done i p there)

pub returns-clause-tells : goal.returns-clause-tells
returns-clause-tells c =
    subst (λ (u : OpenTicket). TellsTruncate c.args.parts.now u.number c.truncate_each-answer.result) c.ticket.view_is
    (tells_truncated (t c) c.ticket.invariant.shares (mark c) c.args.parts.now c.truncate_each-answer.new.parts c.truncate_each-answer.new.shares.items
    c.truncate_each-answer.result (came c))

pub returns-clause-stand : goal.returns-clause-stand
returns-clause-stand c i p there stood =
    stands_truncated (mark c) c.args.parts.now (t c).shares c.truncate_each-answer.new.parts c.truncate_each-answer.new.shares.items c.rest_each.new.shares.items i p there
    (left_rested (t c).number (answer c) c.args.others.now c.rest_each.new.others c.truncate_each-answer.new.shares.items c.rest_each.new.shares.items (rests c) p.number
    (c.requires.other i p there))
    (subst (λ (u : OpenTicket). Stands p u.shares) (sym c.ticket.view_is) stood) c.truncate_each-answer.result (came c)

pub returns-clause-stand_others : goal.returns-clause-stand_others
returns-clause-stand_others c i p at stood =
    stands_rested (t c).number (answer c) c.args.others.now c.rest_each.new.others c.truncate_each-answer.new.shares.items c.rest_each.new.shares.items (rests c) i p at
    (stands_with p (t c).shares c.truncate_each-answer.new.shares.items (left_by_parts c p.number (apart_from c i p at))
    (subst (λ (u : OpenTicket). Stands p u.shares) (sym c.ticket.view_is) stood))

pub returns-clause-sound : goal.returns-clause-sound
returns-clause-sound c i p there =
    sound_truncated (mark c) c.args.parts.now (t c).shares c.truncate_each-answer.result c.truncate_each-answer.new.parts c.truncate_each-answer.new.shares.items (came c) i p there

pub returns-clause-sound_others : goal.returns-clause-sound_others
returns-clause-sound_others c i p at =
    each_rests (t c).number (answer c) c.args.others.now c.rest_each.new.others c.truncate_each-answer.new.shares.items c.rest_each.new.shares.items (rests c)
    (KeepsSound p) i p at
    (λ q did. sound_rests p q (t c).number (answer c) (share_of c.truncate_each-answer.new.shares.items p.number) (share_of c.rest_each.new.shares.items p.number) did)
