use Rattle.std.specs.Prelude.{ℕ, List}
use Rattle.std.proofs.Common.{◌∙◌, ap, is_eq}
use Rattle.std.specs.Ordering.{eq_by_cmp}
use Rattle.std.specs.Cmp.{eq_by_cmp_equiv}
use Rattle.model.specs.Key.{key_cmp, key_cmp_total}
use Rattle.indexes.specs.Columns.{present}
use Rattle.indexes.proofs.kept_values.RefKeyEquivalentKeptValues.equivalent.Goals as goal

-- the order of the row's values and the key says the same from either side
pub returns : goal.returns
returns c =
    let compared = c.compare_key.ensures ∙ ap (λ (columns : List ℕ). key_cmp (present columns c.values.inside.row) c.args.self.now.now) c.as_slice.ensures in
    c.is_eq.ensures ∙ ap is_eq compared ∙ (eq_by_cmp_equiv key_cmp_total).symm (present c.values.inside.columns c.values.inside.row) c.args.self.now.now
    ∙ ap (eq_by_cmp key_cmp c.args.self.now.now) c.values.view_is
