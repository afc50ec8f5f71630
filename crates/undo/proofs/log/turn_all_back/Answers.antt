use Rattle.std.proofs.Common.{◌≡◌, ◌+◌, ◌-◌, [], drop, length, map, refl, sym, ap, subst, ◌∙◌, arith}
use Rattle.std.proofs.Math.Seq.{drop-length}
use Rattle.model.specs.Effect.{all_back}
use Rattle.change.specs.Inverse.{edits_of}
use Rattle.undo.specs.Turned.{AreTurned}
use Rattle.undo.specs.Undo.{AreKnownAll}
use Rattle.undo.specs.UndoLemmas.{rows_undone}
use Rattle.undo.proofs.Turning.{IsUndone, AreTurnedPast, undone_none, this_can, one_more}
use Rattle.undo.proofs.log.turn_all_back.Goals as goal

pub loop-left-init : goal.loop-left-init
loop-left-init c =
    let t = c.args.t.now in
    let all = c.args.inverses.now.items in
    let most : c.len-left.result ≡ length all = omega arith in
    let none : drop c.len-left.result all ≡ [] = ap (λ n. drop n all) most ∙ drop-length all in
    record {
      within = omega arith;
      same_length = refl;
      front = refl;
      undone = subst (IsUndone t t) (sym none) (undone_none t);
      known = subst (AreKnownAll t.schema) (sym none) tt;
      turned = subst (λ is. AreTurned t.rows is is) (sym none) tt;
    }

pub turn_back-requires : goal.turn_back-requires
turn_back-requires c =
    let left = c.loop-left.left - 1 in
    let far = subst (AreTurnedPast c.args.t.now c.loop-left.t c.args.inverses.now.items c.loop-left.inverses.items) (let e : c.loop-left.left ≡ left + 1 = omega arith in e) c.loop-left.invariant in
    this_can c.args.t.now c.loop-left.t c.args.inverses.now.items c.loop-left.inverses.items c.requires left far c.index_mut.result.now c.index_mut.ensures.value

pub loop-left-preserved : goal.loop-left-preserved
loop-left-preserved c =
    let left = c.loop-left.left - 1 in
    let far = subst (AreTurnedPast c.args.t.now c.loop-left.t c.args.inverses.now.items c.loop-left.inverses.items) (let e : c.loop-left.left ≡ left + 1 = omega arith in e) c.loop-left.invariant in
    let e = c.turn_back.ensures in
    one_more c.args.t.now c.loop-left.t c.args.inverses.now.items c.loop-left.inverses.items c.requires left far c.index_mut.result.now c.index_mut.ensures.value
    c.turn_back.new.t c.turn_back.new.inverse e.schema e.rows e.room e.known e.turned

pub returns-clause-rows : goal.returns-clause-rows
returns-clause-rows c =
    let all = c.args.inverses.now.items in
    let done : c.loop-left.left ≡ 0 = omega arith in
    c.loop-left.invariant.undone.rows ∙ rows_undone c.args.t.now (drop c.loop-left.left all)
    ∙ ap (λ n. all_back c.args.t.now.rows (map edits_of (drop n all))) done
