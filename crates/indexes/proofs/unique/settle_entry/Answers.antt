use Rattle.std.proofs.Common.{sym, ◌∙◌, subst}
use Rattle.model.specs.declared.key.Key.{Key}
use Rattle.model.specs.Rows.{values_in}
use Rattle.indexes.specs.Unique.{DropsEntry}
use Rattle.indexes.proofs.Entries.{settled_at_present, nothing_settled, value_of_some}
use Rattle.indexes.proofs.unique.settle_entry.Goals as goal

pub returns-then-has_values : goal.returns-then-has_values
returns-then-has_values c =
    let has = value_of_some (values_in c.args.columns.now c.args.row.now) (sym c.has_values.ensures ∙ c.if-has_values.true) in
    settled_at_present c.args.columns.now c.args.row.now c.args.entries.now c.drop_entry.new.entries has.0 has.1
    (subst (λ (v : Key). DropsEntry v c.args.entries.now c.drop_entry.new.entries) c.of.ensures c.drop_entry.ensures)

pub returns-else-has_values : goal.returns-else-has_values
returns-else-has_values c =
    nothing_settled c.args.columns.now c.args.row.now c.args.entries.now (sym c.has_values.ensures ∙ c.if-has_values.false)
