use Rattle.std.proofs.Common.{◌++◌, List, sym, ap, ◌∙◌, append-nil}
use Rattle.std.specs.Prelude.{Option}
use Rattle.std.specs.Map.{values_of}
use Rattle.model.specs.declared.key.Key.{Key}
use Rattle.model.specs.declared.row.Row.{Row}
use Rattle.live_tables.specs.Merged.{kept_each}
use Rattle.live_tables.proofs.MergeSteps.{rest_next}
use Rattle.live_tables.proofs.merging.put_rest.Goals as goal

pub loop-row-init : goal.loop-row-init
loop-row-init c = ap (λ (hs : List (Key × Option Row)). c.args.rows.now.items ++ values_of (kept_each hs)) (sym c.into_iter-row-iterator.ensures.into_iter_gives.0)

pub loop-row-preserved : goal.loop-row-preserved
loop-row-preserved c =
    rest_next c.args.rows.now.items c.args.stands.entries c.loop-row.rows.items c.loop-row.row-iterator c.loop-row.invariant (c.in-Some.field-0-0, c.in-Some.row) c.next.new.self
    c.in-Some.ensures.steps c.put_row.new.rows.items c.in_ok-put_row.ensures

pub returns : goal.returns
returns c =
    sym (c.loop-row.invariant ∙ ap (λ (hs : List (Key × Option Row)). c.loop-row.rows.items ++ values_of (kept_each hs)) c.in-None.ensures.steps.0 ∙ append-nil c.loop-row.rows.items)
