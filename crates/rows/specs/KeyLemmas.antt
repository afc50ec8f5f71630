-- Two keys are one or apart, and what a finite map under keys has at each after a change.
use Rattle.std.specs.Prelude.{◌≡◌, true, false, cond, Some, None, refl, ◌⊎◌}
use Rattle.std.proofs.Common.{◌∙◌, ap, subst, inl, inr}
use Rattle.std.specs.Ordering.{eq_by_cmp}
use Rattle.std.specs.Cmp.{eq_by_cmp_equiv}
use Rattle.std.specs.FinMap.{FinMap, get, insert, remove, get-insert, get-remove, same_map}
use Rattle.std.proofs.lemmas.Map.Views.{tells_apart}
use Rattle.model.specs.declared.key.Key.{Key}
use Rattle.model.specs.Key.{key_cmp, key_cmp_total}
use Rattle.model.specs.ExactLemmas.{key_cmp_exact}

-- they compare as different, either way round
pub record IsApart (key other : Key) : Type 0 where
  pub there : eq_by_cmp key_cmp key other ≡ false
  pub back : eq_by_cmp key_cmp other key ≡ false

pub one_or_apart : (key other : Key) → (key ≡ other) ⊎ IsApart key other
one_or_apart key other =
    elim (eq_by_cmp key_cmp key other) as (λ b. eq_by_cmp key_cmp key other ≡ b → (key ≡ other) ⊎ IsApart key other) [
      | true ↦ λ e. inl (tells_apart key_cmp_exact key other e)
      | false ↦ λ e. inr (record { there = e; back = (eq_by_cmp_equiv key_cmp_total).symm other key ∙ e })
    ] refl

pub same_key : (key : Key) → eq_by_cmp key_cmp key key ≡ true
same_key = (eq_by_cmp_equiv key_cmp_total).refl

module _ {X : Type 0} where
  pub get_inserted : (m : FinMap key_cmp X) (key : Key) (x : X) → get (insert m key x) key ≡ Some x
  get_inserted m key x = get-insert key_cmp_total m key x key ∙ ap (λ b. cond b (Some x) (get m key)) (same_key key)

  pub get_beside_insert : (m : FinMap key_cmp X) (key : Key) (x : X) (other : Key) → IsApart key other → get (insert m key x) other ≡ get m other
  get_beside_insert m key x other apart = get-insert key_cmp_total m key x other ∙ ap (λ b. cond b (Some x) (get m other)) apart.back

  pub get_removed : (m : FinMap key_cmp X) (key : Key) → get (remove m key) key ≡ None
  get_removed m key = get-remove key_cmp_total m key key ∙ ap (λ b. cond b None (get m key)) (same_key key)

  pub get_beside_remove : (m : FinMap key_cmp X) (key other : Key) → IsApart key other → get (remove m key) other ≡ get m other
  get_beside_remove m key other apart = get-remove key_cmp_total m key other ∙ ap (λ b. cond b None (get m other)) apart.back

  -- maps that have the same at one key, and at each key apart from it, are equal
  pub same_at_and_beside : (m n : FinMap key_cmp X) (key : Key) → get m key ≡ get n key → ((other : Key) → IsApart key other → get m other ≡ get n other) → m ≡ n
  same_at_and_beside m n key here beside =
      same_map key_cmp_total key_cmp_exact m n (λ other.
      elim (one_or_apart key other) [
        | inl e ↦ subst (λ (k : Key). get m k ≡ get n k) e here
        | inr apart ↦ beside other apart
      ])
