use Rattle.std.proofs.Common.{sym, ◌∙◌, ap}
use Rattle.model.specs.Rows.{values_in}
use Rattle.indexes.specs.Unique.{held, number_in}
use Rattle.indexes.proofs.Entries.{held_by_present, held_by_none, value_of_some}
use Rattle.indexes.proofs.unique.find_row.Goals as goal

pub returns-then-not-has_values : goal.returns-then-not-has_values
returns-then-not-has_values c = sym (held_by_none c.args.columns.now c.args.row.now c.args.entries.now (sym c.has_values.ensures ∙ c.if-not-has_values.true))

pub returns-in-Some : goal.returns-in-Some
returns-in-Some c =
    let has = value_of_some (values_in c.args.columns.now c.args.row.now) (sym c.has_values.ensures ∙ c.if-not-has_values.false) in
    ap number_in c.in-Some.ensures.value ∙ ap (held c.args.entries.now) c.of.ensures ∙ sym (held_by_present c.args.columns.now c.args.row.now c.args.entries.now has.0 has.1)

pub returns-in-None : goal.returns-in-None
returns-in-None c =
    let has = value_of_some (values_in c.args.columns.now c.args.row.now) (sym c.has_values.ensures ∙ c.if-not-has_values.false) in
    ap number_in c.in-None.ensures.value ∙ ap (held c.args.entries.now) c.of.ensures ∙ sym (held_by_present c.args.columns.now c.args.row.now c.args.entries.now has.0 has.1)
