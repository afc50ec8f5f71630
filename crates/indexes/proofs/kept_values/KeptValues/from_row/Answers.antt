use Rattle.std.specs.Prelude.{◌≡◌, Some, is_some}
use Rattle.std.proofs.Common.{sym, ◌∙◌, ap, ℕ, List}
use Rattle.model.specs.declared.row.Row.{Row}
use Rattle.model.specs.Rows.{values_in}
use Rattle.indexes.specs.Columns.{present}
use Rattle.indexes.proofs.Entries.{present_is, value_of_some}
use Rattle.indexes.proofs.kept_values.KeptValues.from_row.Goals as goal

pub returns : goal.returns
returns c =
    let columns : c.in_ok-clone.field-0 ≡ c.args.columns.now = c.in_ok-clone.ensures.cases in
    let row : c.in_ok-copy.field-0 ≡ c.args.row.now = c.in_ok-copy.ensures in
    let has = value_of_some (values_in c.args.columns.now c.args.row.now) (ap (λ (cs : List ℕ). is_some (values_in cs c.args.row.now)) (sym c.as_slice.ensures) ∙ sym c.has_values.ensures ∙ c.if-not-has_values.false) in
    ap Some (ap (λ (cs : List ℕ). present cs c.in_ok-copy.field-0) columns ∙ ap (λ (r : Row). present c.args.columns.now r) row ∙ present_is c.args.columns.now c.args.row.now has.0 has.1) ∙ sym has.1
