use Rattle.std.proofs.Common.{arith, ◌<◌, ◌∙◌, None, IfSome, take, subst}
use Rattle.std.proofs.lemmas.List.{get_or_default, get_or-take, length-take-le}
use Rattle.table_locks.specs.EndingLemmas.{none_before, one_before}
use Rattle.table_locks.specs.Lending.{state_of}
use Rattle.table_locks.proofs.ends.are_before.Goals as goal

pub loop-place-init : goal.loop-place-init
loop-place-init g c = none_before c.args.guards.now c.args.end

pub loop-place-preserved : goal.loop-place-preserved
loop-place-preserved g c =
    let guards = c.args.guards.now in
    let i = c.loop-place.place-index in
    let below = c.loop-place-test.true in
    let long = length-take-le c.args.count guards c.requires in
    let within : i < c.args.count = omega (arith, below, long) in
    let item = c.place-item.is ∙ get_or_default (take c.args.count guards) i c.place-item.result None below ∙ get_or-take c.args.count guards i None within in
    one_before guards i c.args.end c.loop-place.invariant
    (subst (λ found. IfSome (state_of found) (λ s. s.last < c.args.end)) item (c.is_before.ensures c.if-not-is_before.false))

pub returns : goal.returns
returns g c so i below =
    let over = c.loop-place-test.false in
    let long = length-take-le c.args.count c.args.guards.now c.requires in
    c.loop-place.invariant i (omega (arith, over, long, below))
