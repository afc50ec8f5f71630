use Rattle.std.proofs.Common.{◌≡◌, ◌+◌, ◌-◌, ◌<◌, ap, sym, ◌∙◌, take, length, filter, arith}
use Rattle.std.proofs.Math.Seq.{take-length}
use Rattle.table_parts.proofs.Until.{is_until, more_above, those_until}
use Rattle.table_parts.proofs.entries.count_until.Goals as goal

pub loop-left-init : goal.loop-left-init
loop-left-init c = record {
  within = omega arith;
  behind = ap (filter (is_until c.args.position)) (take-length c.args.entries.now);
}

pub loop-left-preserved : goal.loop-left-preserved
loop-left-preserved c =
    let entries = c.args.entries.now in
    let one : c.loop-left.left ≡ c.loop-left.left - 1 + 1 = omega (arith, c.loop-left-test.true) in
    let below : c.loop-left.left - 1 < length entries = omega (arith, c.loop-left-test.true, c.loop-left.invariant.within) in record {
      within = omega (arith, c.loop-left.invariant.within);
      behind =
          sym (more_above c.args.position entries c.index-entries-left.result (c.loop-left.left - 1) below c.if-entries-left.false)
          ∙ ap (λ n. filter (is_until c.args.position) (take n entries)) (sym one)
          ∙ c.loop-left.invariant.behind;
    }

-- all that are left end there or below
pub returns-then-entries-left-clause-until : goal.returns-then-entries-left-clause-until
returns-then-entries-left-clause-until c =
    let entries = c.args.entries.now in
    let one : c.loop-left.left ≡ c.loop-left.left - 1 + 1 = omega (arith, c.loop-left-test.true) in
    let below : c.loop-left.left - 1 < length entries = omega (arith, c.loop-left-test.true, c.loop-left.invariant.within) in
    ap (λ n. take n entries) one
    ∙ sym (those_until c.args.position entries c.index-entries-left.result c.requires (c.loop-left.left - 1) below c.if-entries-left.true)
    ∙ ap (λ n. filter (is_until c.args.position) (take n entries)) (sym one)
    ∙ c.loop-left.invariant.behind

-- none is left
pub returns-clause-until : goal.returns-clause-until
returns-clause-until c =
    let none : c.loop-left.left ≡ 0 = omega (arith, c.loop-left-test.false) in
    ap (λ n. filter (is_until c.args.position) (take n c.args.entries.now)) (sym none) ∙ c.loop-left.invariant.behind
