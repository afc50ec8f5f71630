use Rattle.std.specs.Prelude.{Some}
use Rattle.std.proofs.Common.{sym, ◌∙◌, ap}
use Rattle.std.specs.Ordering.{is_eq}
use Rattle.std.proofs.lemmas.Map.Views.{tells_apart}
use Rattle.model.specs.ExactLemmas.{value_cmp_exact}
use Rattle.model.specs.ValueRef.{read_value}
use Rattle.indexes.proofs.columns.agree_at.Goals as goal

pub returns-in-Some-Some : goal.returns-in-Some-Some
returns-in-Some-Some c = λ same.
    let alike = ap is_eq (sym c.compare.ensures) ∙ sym c.is_eq.ensures ∙ same in
    sym c.in-Some-Some.ensures ∙ ap Some (tells_apart value_cmp_exact (read_value c.in-Some-Some.own) (read_value c.in-Some-Some.others) alike) ∙ c.in-Some-Some.ensures'
