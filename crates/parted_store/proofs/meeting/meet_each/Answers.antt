use Rattle.std.proofs.Common.{rules, ◌≡◌, ◌<◌, ◌∙◌, List, Some, sym, ap, subst, arith, length, slice_index_or, refl}
use Rattle.std.specs.Prelude.{slice_get, slice_set}
use Rattle.std.proofs.lemmas.List.{set-get_or}
use Rattle.std.proofs.lemmas.Option.{slice_get-get_or, slice_get_within, same_Some}
use mathlib.Core.Logic.{dite}
use native.Mathlib.Decide.{ℕ_discrete}
use Rattle.table_parts.specs.Part.{Part}
use Rattle.parted_store.specs.Lent.{Stands}
use Rattle.parted_store.specs.StandLemmas.{stands_with}
use Rattle.parted_store.proofs.meeting.meet_each.Goals as goal

pub loop-i-init : goal.loop-i-init
loop-i-init c = (λ j p below at. absurd (omega (arith, below)), refl, refl, refl, λ table. refl)

module _ (c : goal.After-meet_boxed-arg-1) where
  abbrev p : Part
  p = slice_index_or c.loop-i.parts c.loop-i.i c.index-parts-i.result

  -- the part that is next is the one that was there
  there : slice_get c.args.parts.now c.loop-i.i ≡ Some p
  there =
      let room : c.loop-i.i < length c.loop-i.parts = search rules in
      ap (λ (ps : List Part). slice_get ps c.loop-i.i) (sym c.loop-i.invariant.1) ∙ slice_get-get_or c.loop-i.parts c.loop-i.i c.index-parts-i.result room

pub meet_boxed-requires : goal.meet_boxed-requires
meet_boxed-requires c share is = c.requires c.loop-i.i (p c) (there c) share (sym (c.loop-i.invariant.4 (p c).number) ∙ is)

pub loop-i-preserved : goal.loop-i-preserved
loop-i-preserved c =
    let l = c.loop-i in
    let q : Part = slice_index_or l.parts l.i c.index-parts-i.result in
    let room : l.i < length l.parts = search rules in
    let at_q : slice_get c.args.parts.now l.i ≡ Some q = ap (λ (ps : List Part). slice_get ps l.i) (sym l.invariant.1) ∙ slice_get-get_or l.parts l.i c.index-parts-i.result room in (
      λ j r below at. dite (ℕ_discrete j l.i)
          (λ here.
          stands_with r l.ticket.shares c.args.ticket.now.shares (sym (l.invariant.4 r.number))
          (subst (λ (s : Part). Stands s l.ticket.shares) (same_Some q r (sym at_q ∙ ap (slice_get c.args.parts.now) (sym here) ∙ at)) c.meet_boxed.ensures.stands))
          (λ beside. l.invariant.0 j r (omega (arith, below, beside)) at),
      ap (slice_set l.parts l.i) c.meet_boxed.ensures.part ∙ set-get_or l.parts l.i c.index-parts-i.result ∙ l.invariant.1,
      c.meet_boxed.ensures.xid ∙ l.invariant.2,
      c.meet_boxed.ensures.events ∙ l.invariant.3,
      λ table. c.meet_boxed.ensures.shares table ∙ l.invariant.4 table,
    )

pub returns-clause-stands : goal.returns-clause-stands
returns-clause-stands c i p at =
    let l = c.loop-i in
    let long : length l.parts ≡ length c.args.parts.now = ap length l.invariant.1 in
    let ends : l.i ≡ length l.parts = search rules in
    l.invariant.0 i p (let within : i < length c.args.parts.now = slice_get_within c.args.parts.now i p at in omega (arith, within, ends, long)) at
