use Rattle.std.proofs.Common.{◌<◌, ◌++◌, ◌∷◌, [], length, unwrap_or, append_assoc, ap, sym, ◌∙◌, arith}
use Rattle.std.proofs.lemmas.List.{map-append}
use Rattle.std.proofs.lemmas.Option.{slice_get-get_or}
use Rattle.sqlite_value.specs.Value.{owned}
use Rattle.sqlite.specs.Values.{bound, bound_value}
use Rattle.model.specs.declared.patch.ColumnPatch.TheVariants.{Keep}
use Rattle.mirror_statements.specs.Asked.{sql_patch}
use Rattle.mirror_statements.proofs.Written.{flat_mapped_more}
use Rattle.mirror_statements.proofs.values.push_patch.Goals as goal

pub loop-number-preserved : goal.loop-number-preserved
loop-number-preserved c =
    let patch = c.args.patch.now in
    let number = c.loop-number.number in
    let before = c.loop-number.into.items in
    let writes = c.sql_patch.result.0 in
    let value = c.sql_patch.result.1 in
    let below : number < length patch = omega arith in
    let column = ap (λ column. unwrap_or column Keep) (sym (slice_get-get_or patch number Keep below)) ∙ sym c.column.ensures in
    let both = c.in_ok-push-2.ensures.items ∙ ap (λ items. items ++ value ∷ []) c.in_ok-push.ensures.items ∙ append_assoc before (writes ∷ []) (value ∷ []) in
    flat_mapped_more sql_patch (bound c.args.into.now.items) (bound before) (bound c.push-in-loop-number.new.self.items) patch number Keep _ below
    (ap sql_patch column) c.loop-number.invariant
    (ap bound both ∙ map-append (λ v. bound_value (owned v)) before (writes ∷ value ∷ []) ∙ ap (λ pair. bound before ++ pair) (c.sql_patch.ensures))
