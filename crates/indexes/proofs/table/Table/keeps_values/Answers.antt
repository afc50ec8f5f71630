use Rattle.std.proofs.Common.{sym, ◌∙◌, ap, subst}
use Rattle.std.specs.Prelude.{◌≡◌, List, Some, slice_get}
use Rattle.std.specs.FinMap.{get}
use Rattle.model.specs.declared.row.Row.{Row}
use Rattle.indexes.specs.Table.{TableContent}
use Rattle.indexes.specs.declared.unique.Unique.{Unique}
use Rattle.indexes.specs.Unique.{EachAgrees}
use Rattle.indexes.proofs.Tabling.{agree_in_keys}
use Rattle.indexes.proofs.table.Table.keeps_values.Goals as goal

same_row : (row other : Row) → Some row ≡ Some other → row ≡ other
same_row row other e = cc

pub returns-in_ok-stood-in-Some-clause-values : goal.returns-in_ok-stood-in-Some-clause-values
returns-in_ok-stood-in-Some-clause-values c = λ same stood at i columns is.
    let us = c.self.inside.uniques.items in
    let row_is : c.in_ok-stood-in-Some.stood ≡ stood = c.in_ok-stood-in-Some.ensures ∙ same_row _ stood (c.in-Some.ensures ∙ ap (λ (t : TableContent). get t.rows c.args.key.now) c.self.view_is ∙ at) in
    let each = subst (λ (vs : List Unique). EachAgrees c.args.row.now c.in_ok-stood-in-Some.stood vs) c.as_slice.ensures.value (c.agree_in_each.ensures same) in
    let agrees = subst (λ (r : Row). EachAgrees c.args.row.now r us) row_is each in
    agree_in_keys us c.args.row.now stood agrees i columns (subst (λ (t : TableContent). slice_get t.keys.uniques i ≡ Some columns) (sym c.self.view_is) is)
