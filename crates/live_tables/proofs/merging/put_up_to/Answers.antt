use Rattle.std.proofs.Common.{◌≡◌, ap, sym, ◌∙◌, arith, true≢false}
use Rattle.model.specs.Key.{key_cmp}
use Rattle.model.specs.declared.key.Key.{Key}
use Rattle.model.specs.declared.row.Row.{Row}
use Rattle.std.specs.Prelude.{Option, refl}
use Rattle.live_tables.proofs.MergeSteps.{greater, equal, less, split_first, same_first, no_first, none_left, one_above, one_below, one_here}
use Rattle.live_tables.proofs.merging.put_up_to.Goals as goal
use Rattle.live_tables.proofs.merging.put_up_to.Goals.{In_ok-put_row}

pub loop-first-init : goal.loop-first-init
loop-first-init c = λ e others is. refl

pub unreachable-requires : goal.unreachable-requires
unreachable-requires c = true≢false (sym (c.in_default-pop_first.ensures.variant.1 (c.in-Some.ensures.variant.0 refl)))

pub returns-then-is_gt : goal.returns-then-is_gt
returns-then-is_gt c =
    let stands = c.loop-first.stands.entries in
    let split = split_first stands (c.in-Some.first.now, c.in-Some.field-0-1.now) c.in-Some.ensures.first in
    one_above c.args.key.now c.args.rows.now.items c.args.stands.now.entries c.loop-first.rows.items stands c.loop-first.invariant
    (c.in-Some.first.now, c.in-Some.field-0-1.now) split.0 split.1 (sym c.cmp-order.ensures ∙ greater c.cmp-order.result c.if-is_gt.ensures)

-- the key that was taken out compares as the first one did
compares : (c : In_ok-put_row) → key_cmp c.in-Some-pop_first.field-0-0 c.args.key.now ≡ c.cmp-order.result
compares c =
    ap (λ (h : Key × Option Row). key_cmp h.0 c.args.key.now)
    (same_first c.loop-first.stands.entries (c.in-Some.first.now, c.in-Some.field-0-1.now) (c.in-Some-pop_first.field-0-0, c.in-Some-pop_first.row) c.pop_first.new.self.entries c.in-Some.ensures.first
    c.in-Some-pop_first.ensures.removal)
    ∙ sym c.cmp-order.ensures

pub returns-then-is_eq : goal.returns-then-is_eq
returns-then-is_eq c =
    one_here c.args.key.now c.args.rows.now.items c.args.stands.now.entries c.loop-first.rows.items c.loop-first.stands.entries c.loop-first.invariant
    (c.in-Some-pop_first.field-0-0, c.in-Some-pop_first.row) c.pop_first.new.self.entries c.in-Some-pop_first.ensures.removal c.put_row.new.rows.items c.in_ok-put_row.ensures
    (compares (goal.at.returns-then-is_eq c).In_ok-put_row ∙ equal c.cmp-order.result c.if-is_eq.ensures)

pub loop-first-smaller : goal.loop-first-smaller
loop-first-smaller c = omega (arith, c.in-Some-pop_first.ensures.len)

pub loop-first-preserved : goal.loop-first-preserved
loop-first-preserved c =
    one_below c.args.key.now c.args.rows.now.items c.args.stands.now.entries c.loop-first.rows.items c.loop-first.stands.entries c.loop-first.invariant
    (c.in-Some-pop_first.field-0-0, c.in-Some-pop_first.row) c.pop_first.new.self.entries c.in-Some-pop_first.ensures.removal c.put_row.new.rows.items c.in_ok-put_row.ensures
    (compares (goal.at.loop-first-preserved c).In_ok-put_row ∙ less c.cmp-order.result c.if-is_gt.ensures c.if-is_eq.ensures)

pub returns : goal.returns
returns c =
    none_left c.args.key.now c.args.rows.now.items c.args.stands.now.entries c.loop-first.rows.items c.loop-first.stands.entries c.loop-first.invariant
    (no_first c.loop-first.stands.entries c.in_default.ensures.variant.1)
