use Rattle.std.proofs.Common.{◌<◌, ◌∷◌, [], length, None, unwrap_or, ap, sym, ◌∙◌, arith, rules}
use Rattle.std.proofs.lemmas.List.{map-append}
use Rattle.std.proofs.lemmas.Option.{slice_get-get_or}
use Rattle.sqlite_value.specs.Value.{owned}
use Rattle.sqlite.specs.Values.{bound, bound_value}
use Rattle.mirror_statements.specs.Asked.{sql_column}
use Rattle.mirror_statements.proofs.Written.{mapped_more}
use Rattle.mirror_statements.proofs.values.push_row.Goals as goal

pub loop-number-preserved : goal.loop-number-preserved
loop-number-preserved c =
    let row = c.args.row.now in
    let number = c.loop-number.number in
    let below : number < length row = omega arith in
    mapped_more sql_column (bound c.args.into.now.items) (bound c.loop-number.into.items) (bound c.push.new.self.items) row number None (bound_value (owned c.sql_column.result)) below
    (ap (λ column. sql_column (unwrap_or column None)) (sym (slice_get-get_or row number None below)) ∙ search rules)
    c.loop-number.invariant
    (ap bound c.in_ok-push.ensures.items ∙ map-append (λ v. bound_value (owned v)) c.loop-number.into.items (c.sql_column.result ∷ []))
