use Rattle.std.specs.Prelude.{◌≡◌}
use Rattle.std.proofs.Common.{sym, ◌∙◌, subst}
use Rattle.model.specs.declared.key.Key.{Key}
use Rattle.model.specs.Rows.{values_in}
use Rattle.indexes.specs.Unique.{entry_at, with_number, SameApart}
use Rattle.indexes.proofs.Entries.{set_at_present, value_of_some}
use Rattle.indexes.proofs.unique.set_entry.Goals as goal

pub returns-then-has_values : goal.returns-then-has_values
returns-then-has_values c =
    let has = value_of_some (values_in c.args.columns.now c.args.row.now) (sym c.has_values.ensures ∙ c.if-has_values.true) in
    set_at_present c.args.columns.now c.args.row.now c.args.number c.args.entries.now c.write_entry.new.entries has.0 has.1
    (subst (λ (v : Key). entry_at c.write_entry.new.entries v ≡ with_number c.args.number (entry_at c.args.entries.now v)) c.of.ensures c.write_entry.ensures.here)
    (subst (λ (v : Key). SameApart v c.args.entries.now c.write_entry.new.entries) c.of.ensures c.write_entry.ensures.beside)
