use Rattle.std.proofs.Common.{ℕ, Option, Some, refl, sym, ap, subst, ◌∙◌}
use Rattle.std.specs.BTreeMap.{BTreeMap}
use Rattle.model.specs.declared.key.Key.{Key}
use Rattle.model.specs.declared.row.Row.{Row}
use Rattle.model.specs.Rows.{values_in}
use Rattle.model.specs.Effect.{one_edit}
use Rattle.change.specs.Inverse.{rows_held}
use Rattle.change.specs.Laid.{IsLaidUnder}
use Rattle.change.proofs.LayingUnder.{IsLaying, other_emptied, begins_laying, lays_next, has_key, ends_laying}
use Rattle.change.proofs.laying.lay_rows.Goals as goal
use Rattle.change.proofs.laying.lay_rows.Goals.{in-Some-2+in_ok-lay_one, in_default}

pub returns-then-emptied-table : goal.returns-then-emptied-table
returns-then-emptied-table c = other_emptied c.args.known.now c.args.table c.args.emptied.now c.if-emptied-table.true

pub loop-row-init : goal.loop-row-init
loop-row-init c =
    begins_laying c.args.emptied.now.contents c.walk-row-items.ensures.sound c.args.known.now c.into_iter-row-iterator.result
    (c.into_iter-row-iterator.ensures.into_iter_gives ∙ c.walk-row-items.ensures.rows)

pub loop-row-preserved : goal.loop-row-preserved
loop-row-preserved c =
    let t = c.args.emptied.now.contents in
    let keyed = c.in_ok-key.ensures ∙ ap (values_in t.keys.primary) c.in_ok-row.ensures in
    elim c.match-branch-3.branch [
      | in-Some-2+in_ok-lay_one w ↦
          subst (λ (known : BTreeMap Key (Option Row)). IsLaying t c.args.known.now known c.next.new.self) (sym w.known-is)
          (lays_next t c.args.known.now c.loop-row.known c.loop-row.row-iterator c.loop-row.invariant c.in-Some.row c.next.new.self c.in-Some.ensures.steps
          c.args.table w.in-Some-2.key (sym keyed ∙ w.in-Some-2.is) w.lay_one.new.known
          (subst (λ (r : Row). IsLaidUnder c.loop-row.known c.args.table (one_edit (c.args.table, w.in-Some-2.key) (Some r)) w.lay_one.new.known) c.in_ok-row.ensures w.in_ok-lay_one.ensures))
      | in_default w ↦
          absurd (has_key t c.args.known.now c.loop-row.known c.loop-row.row-iterator c.loop-row.invariant c.in-Some.row c.next.new.self c.in-Some.ensures.steps
          (sym keyed ∙ w.in_default.is))
    ]

pub returns : goal.returns
returns c =
    subst (λ (n : ℕ). IsLaidUnder c.args.known.now n (rows_held c.args.emptied.now) c.loop-row.known) c.if-emptied-table.false
    (ends_laying c.args.emptied.now.contents c.args.known.now c.loop-row.known c.loop-row.row-iterator c.loop-row.invariant c.in-None.ensures.steps.0 c.args.emptied.now refl)
