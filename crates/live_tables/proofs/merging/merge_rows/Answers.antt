use Rattle.std.proofs.Common.{◌≡◌, List, ◌∷◌, ◌++◌, [], if◌then◌else◌, refl, ap, ◌∙◌}
use Rattle.std.specs.Map.{values_of}
use Rattle.std.specs.FinMap.{entries}
use Rattle.model.specs.Rows.{key_of}
use Rattle.model.specs.declared.row.Row.{Row}
use Rattle.live_tables.specs.Merged.{merged}
use Rattle.live_tables.proofs.MergeSteps.{IsMerging, begins_merging, ends_merging, merges_next, merged_rows}
use Rattle.live_tables.proofs.TableRows.{keyed}
use Rattle.live_tables.proofs.merging.merge_rows.Goals as goal
use Rattle.live_tables.proofs.merging.merge_rows.Goals.{In_ok-put_up_to_row}

pub loop-row-init : goal.loop-row-init
loop-row-init c =
    begins_merging c.args.tables.now.schema c.args.tables.now.rows c.recall_invariant.ensures.valid c.args.table c.args.stands.entries c.new-rows.result.items c.into_iter-row-iterator.result
    c.new-rows.ensures.items (c.into_iter-row-iterator.ensures.into_iter_gives ∙ c.walk-row-items.ensures.rows)

-- the rows behind which the next one was merged go on
goes_on : (c : In_ok-put_up_to_row) (new : List Row) → new ≡ (if c.in_ok-put_up_to_row.field-0 then c.put_up_to_row.new.rows.items else c.put_up_to_row.new.rows.items ++ c.in-Some.row ∷ [])
    → IsMerging c.args.tables.now.schema c.args.table (values_of (merged (keyed c.args.table (entries c.args.tables.now.rows)) c.args.stands.entries)) new c.put_up_to_row.new.stands.entries c.next.new.self
goes_on c new is =
    merges_next c.args.tables.now.schema c.args.table _ c.loop-row.rows.items c.loop-row.left.entries c.loop-row.row-iterator c.loop-row.invariant c.in-Some.row c.next.new.self
    c.in-Some.ensures.steps c.in_ok-put_up_to_row.field-0 c.put_up_to_row.new.rows.items c.put_up_to_row.new.stands.entries
    (λ key at. c.in_ok-put_up_to_row.ensures key (ap (key_of c.args.tables.now.schema c.args.table) c.in_ok-row.ensures ∙ at)) new is

pub loop-row-preserved-in_ok-push : goal.loop-row-preserved-in_ok-push
loop-row-preserved-in_ok-push c =
    goes_on (goal.at.loop-row-preserved-in_ok-push c).In_ok-put_up_to_row c.push.new.self.items
    (rw c.if-not-branch.true (c.in_ok-push.ensures.items ∙ ap (λ (r : Row). c.put_up_to_row.new.rows.items ++ r ∷ []) c.in_ok-row.ensures))

pub loop-row-preserved : goal.loop-row-preserved
loop-row-preserved c = goes_on (goal.at.loop-row-preserved c).In_ok-put_up_to_row c.put_up_to_row.new.rows.items (rw c.if-not-branch.false refl)

pub returns : goal.returns
returns c = λ all tells.
    ends_merging c.args.tables.now.schema c.args.table _ c.loop-row.rows.items c.loop-row.left.entries c.loop-row.row-iterator c.loop-row.invariant c.in-None.ensures.steps.0
    c.put_rest.new.rows.items c.in_ok-put_rest.ensures
    ∙ merged_rows c.args.tables.now.rows c.args.table c.args.stands c.len-stands.ensures.ordered all tells
