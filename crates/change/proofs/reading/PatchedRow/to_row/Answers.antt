use Rattle.std.specs.Prelude.{IfOk, None}
use Rattle.std.specs.Option.{option_map}
use Rattle.std.proofs.Common.{◌≡◌, ◌∙◌, sym, ap, subst, ◌++◌, ◌∷◌, [], ◌<◌, ◌≤◌, length, arith, take, take_all}
use Rattle.std.proofs.lemmas.List.{take_more}
use Rattle.std.proofs.lemmas.Option.{unwrap_or-slice_get}
use Rattle.model.specs.declared.row.Row.{Row}
use Rattle.model.specs.ValueRef.{read_value}
use Rattle.change.specs.Reading.{patch_read, read_row}
use Rattle.change.proofs.PatchedColumns.{length_patched}
use Rattle.change.proofs.reading.PatchedRow.to_row.Goals as goal

pub loop-column-preserved : goal.loop-column-preserved
loop-column-preserved c =
    let column = c.loop-column.column in
    let patched : Row = read_row c.args.self in
    let within : column < length patched = omega (arith, length_patched (patch_read c.args.self.patch) c.args.self.row.now) in
    let value = c.column.ensures ∙ unwrap_or-slice_get patched column None in
    c.in_ok-push.ensures ∙ ap (λ vs. vs ++ option_map read_value c.column.result ∷ []) c.loop-column.invariant ∙ ap (λ v. take column patched ++ v ∷ []) value
    ∙ sym (take_more patched column None within)

pub returns : goal.returns
returns c =
    let patched : Row = read_row c.args.self in
    let all : length patched ≤ c.loop-column.column = omega (arith, length_patched (patch_read c.args.self.patch) c.args.self.row.now) in
    subst (λ (row : Row). IfOk c.finish.result (λ r. r ≡ row)) (c.loop-column.invariant ∙ take_all c.loop-column.column patched all) c.finish.ensures
