use Rattle.std.proofs.Common.{◌≡◌, ◌∷◌, ◌∙◌, ℕ, List, sym, ap, subst, arith, length, take}
use Rattle.std.proofs.Math.Seq.{take-length}
use Rattle.savepoint.specs.Savepoints.{subs_of}
use Rattle.parted_store.specs.Back.{IsBackAt}
use Rattle.parted_store.specs.BackLemmas.{back_once, back_more, marks_more}
use Rattle.parted_store.proofs.back.back_to_marks.Goals as goal

pub loop-mark-init : goal.loop-mark-init
loop-mark-init c =
    back_once c.args.part.now c.args.share.now c.args.sub c.back_to.new.self c.back_to.new.t c.back_to.ensures.stood c.back_to.ensures.in_part
    c.back_to.ensures.ticket c.back_to.ensures.number c.back_to.ensures.same c.back_to.ensures.end

pub loop-mark-preserved : goal.loop-mark-preserved
loop-mark-preserved c =
    let l = c.loop-mark in
    let r = c.back_to-in-loop-mark in
    subst (λ (marks : List ℕ). IsBackAt c.args.part.now c.args.share.now (c.args.sub ∷ marks) r.new.self r.new.t)
    (sym (marks_more c.args.dropped.now l.mark-index _ c.loop-mark-test.true))
    (back_more c.args.part.now c.args.share.now (c.args.sub ∷ subs_of (take l.mark-index c.args.dropped.now)) l.part l.share l.invariant
    _ r.new.self r.new.t r.ensures.ticket r.ensures.in_part r.ensures.number r.ensures.same r.ensures.end)

pub returns : goal.returns
returns c =
    let l = c.loop-mark in
    let ends : l.mark-index ≡ length c.args.dropped.now = omega (arith, l.auto.mark-index-end, c.loop-mark-test.false) in
    subst (λ marks. IsBackAt c.args.part.now c.args.share.now (c.args.sub ∷ subs_of marks) l.part l.share)
    (ap (λ n. take n c.args.dropped.now) ends ∙ take-length c.args.dropped.now) l.invariant
