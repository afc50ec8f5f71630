-- Keys that tie are equal, those that differ do not, and what an updated map has at each.
use Rattle.std.specs.Prelude.{◌≡◌, ◌≢◌, true, false, cond, Option, Some, unwrap_or, refl, ◌⊎◌}
use Rattle.std.proofs.Common.{sym, ◌∙◌, ap, inl, inr, true≢false}
use Rattle.std.specs.Ordering.{eq_by_cmp, is_eq}
use Rattle.std.specs.Cmp.{IsTotalOrder, tied_itself}
use Rattle.std.specs.FinMap.{IsAntisymmetric}
use Rattle.std.proofs.lemmas.Map.Views.{tells_apart}
use Rattle.std.specs.declared.cmp.Ordering.{Ordering}

pub not_tied : {K : Type 0} {R : K → K → Ordering} → IsAntisymmetric R → (key other : K) → other ≢ key → eq_by_cmp R key other ≡ false
not_tied {R = R} exact key other apart =
    elim (eq_by_cmp R key other) as (λ b. eq_by_cmp R key other ≡ b → b ≡ false) [
      | true ↦ λ e. absurd (apart (sym (tells_apart exact key other e)))
      | false ↦ λ e. refl
    ] refl

pub tied_self : {K : Type 0} {R : K → K → Ordering} → IsTotalOrder R → (key : K) → eq_by_cmp R key key ≡ true
tied_self o key = ap is_eq (tied_itself o key)

-- what two maps have at each key, where the second has `w` at one key and elsewhere what the first has
module _ {K X : Type 0} {R : K → K → Ordering} (before after : K → Option X) (key : K) (w : Option X) (step : (other : K) → after other ≡ cond (eq_by_cmp R key other) w (before other)) where
  pub updated_here : IsTotalOrder R → after key ≡ w
  updated_here o = step key ∙ ap (λ b. cond b w (before key)) (tied_self o key)

  pub updated_beside : IsAntisymmetric R → (other : K) → other ≢ key → after other ≡ before other
  updated_beside exact other apart = step other ∙ ap (λ b. cond b w (before other)) (not_tied exact key other apart)

-- keys are one or apart
pub same_or_apart : {K : Type 0} {R : K → K → Ordering} → IsTotalOrder R → IsAntisymmetric R → (key other : K) → (key ≡ other) ⊎ (key ≢ other)
same_or_apart {K = K} {R = R} o exact key other =
    elim (eq_by_cmp R key other) as (λ b. eq_by_cmp R key other ≡ b → (key ≡ other) ⊎ (key ≢ other)) [
      | true ↦ λ e. inl (tells_apart exact key other e)
      | false ↦ λ e. inr (λ is. true≢false (sym (tied_self o key) ∙ ap (eq_by_cmp R key) is ∙ e))
    ] refl

pub same_value : {X : Type 0} (x y : X) → Some x ≡ Some y → x ≡ y
same_value x y e = ap (λ o. unwrap_or o x) e
