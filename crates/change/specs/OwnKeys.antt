-- Rows that stand at their own keys, as a list of entries in order.
--     less, find_below      what is below all keys of entries is not among them
--     OwnKeys, own_by_find      each stands at its own key; so it is where each that is found does
use Rattle.std.specs.Prelude.{◌≡◌, true, false, cond, List, [], ◌∷◌, Option, Some, None, refl, T}
use Rattle.std.proofs.Common.{sym, ◌∙◌, ap, subst}
use Rattle.std.specs.Ordering.{eq_by_cmp, is_eq, is_lt}
use Rattle.std.specs.Cmp.{tied_itself}
use Rattle.std.specs.declared.cmp.Ordering.{Ordering}
use Rattle.std.specs.declared.cmp.Ordering.TheVariants.{Less, Equal, Greater}
use Rattle.std.specs.FinMap.{find, is_sorted}
use Rattle.std.specs.FinMap.Entries.{below_all}
use Rattle.std.proofs.lemmas.Map.Views.{tells_apart}
use Rattle.model.specs.declared.key.Key.{Key}
use Rattle.model.specs.declared.row.Row.{Row}
use Rattle.model.specs.Key.{key_cmp, key_cmp_total}
use Rattle.model.specs.ExactLemmas.{key_cmp_exact}
use Rattle.model.specs.TakenLemmas.{first_T, second_T}

pub less : (r : Ordering) → T (is_lt r) → r ≡ Less
less Less p = refl
less Equal p = absurd p
less Greater p = absurd p

pub find_below : {X : Type 0} (q : Key) (es : List (Key × X)) → T (below_all key_cmp q es) → find key_cmp q es ≡ None
find_below q [] below = refl
find_below q (e ∷ es) below = ap (λ (r : Ordering). cond (is_eq r) (Some e.1) (find key_cmp q es)) (less _ (first_T _ _ below)) ∙ find_below q es (second_T _ _ below)

module _ (key_at : Row → Option Key) where
  -- each row stands at its own key
  abbrev pub OwnKeys : List (Key × Row) → Type 0
  OwnKeys [] = Unit {0}
  OwnKeys (e ∷ es) = (key_at e.1 ≡ Some e.0) × OwnKeys es

  pub own_by_find : (es : List (Key × Row)) → T (is_sorted key_cmp es)
      → ((key : Key) (row : Row) → find key_cmp key es ≡ Some row → key_at row ≡ Some key) → OwnKeys es
  own_by_find [] sorted own = tt
  own_by_find (e ∷ es) sorted own = (
    own e.0 e.1 (ap (λ (r : Ordering). cond (is_eq r) (Some e.1) (find key_cmp e.0 es)) (tied_itself key_cmp_total e.0)),
    own_by_find es (second_T _ _ sorted) (λ key row at. own key row (
        elim (eq_by_cmp key_cmp key e.0) as (λ b. eq_by_cmp key_cmp key e.0 ≡ b → cond b (Some e.1) (find key_cmp key es) ≡ Some row) [
          | true ↦ λ same.
              let under = subst (λ (k : Key). find key_cmp k es ≡ None) (sym (tells_apart key_cmp_exact key e.0 same)) (find_below e.0 es (first_T _ _ sorted)) in
              absurd (let clash : None ≡ Some row = sym under ∙ at in cc)
          | false ↦ λ differs. at
        ] refl
        )),
  )
