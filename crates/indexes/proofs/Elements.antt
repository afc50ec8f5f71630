-- What a list contains, by recursion.
use Rattle.std.specs.Prelude.{◌≡◌, ℕ, suc, ◌<◌, true, false, cond, List, [], ◌∷◌, ◌++◌, length, map, Option, Some, None, refl, ◌⊎◌, slice_index_or, IsSome}
use Rattle.std.proofs.Common.{zero, sym, ◌∙◌, ap, inl, inr, arith}
use Rattle.std.specs.List.{Contains}
use Rattle.std.specs.Map.{lookup}
use Rattle.std.specs.Ordering.{eq_by_cmp}
use Rattle.std.specs.Cmp.{eq_by_cmp_equiv}
use Rattle.std.specs.FinMap.{FinMap, find, get, keys, entries, get-entries}
use Rattle.std.proofs.lemmas.Map.Views.{tells_apart}
use Rattle.model.specs.declared.key.Key.{Key}
use Rattle.model.specs.Key.{key_cmp, key_cmp_total}
use Rattle.model.specs.ExactLemmas.{key_cmp_exact}

abbrev pub Elem : {X : Type 0} → List X → X → Type 0
Elem [] x = ⊥
Elem (y ∷ ys) x = (y ≡ x) ⊎ Elem ys x

module _ {X : Type 0} where
  pub contains_elem : (xs : List X) (x : X) → Elem xs x → Contains xs x
  contains_elem [] x h = absurd h
  contains_elem (y ∷ ys) x (inl e) = (0, omega arith, e)
  contains_elem (y ∷ ys) x (inr h) = let c = contains_elem ys x h in (suc c.0, omega arith, c.2)

  elem_at : (xs : List X) (x : X) (k : ℕ) → k < length xs → slice_index_or xs k x ≡ x → Elem xs x
  elem_at [] x k l e = absurd (omega arith)
  elem_at (y ∷ ys) x zero l e = inl e
  elem_at (y ∷ ys) x (suc k) l e = inr (elem_at ys x k (omega arith) e)

  pub elem_contains : (xs : List X) (x : X) → Contains xs x → Elem xs x
  elem_contains xs x c = elem_at xs x c.0 c.1 c.2

  pub elem_left : (xs ys : List X) (x : X) → Elem xs x → Elem (xs ++ ys) x
  elem_left [] ys x h = absurd h
  elem_left (y ∷ xs) ys x (inl e) = inl e
  elem_left (y ∷ xs) ys x (inr h) = inr (elem_left xs ys x h)

  pub elem_right : (xs ys : List X) (x : X) → Elem ys x → Elem (xs ++ ys) x
  elem_right [] ys x h = h
  elem_right (y ∷ xs) ys x h = inr (elem_right xs ys x h)

  pub elem_either : (xs ys : List X) (x : X) → Elem (xs ++ ys) x → Elem xs x ⊎ Elem ys x
  elem_either [] ys x h = inr h
  elem_either (y ∷ xs) ys x (inl e) = inl (inl e)
  elem_either (y ∷ xs) ys x (inr h) = elim (elem_either xs ys x h) [ inl k ↦ inl (inr k) | inr k ↦ inr k ]

module _ {X Y : Type 0} (f : X → Y) where
  pub elem_map : (xs : List X) (x : X) → Elem xs x → Elem (map f xs) (f x)
  elem_map [] x h = absurd h
  elem_map (y ∷ xs) x (inl e) = inl (ap f e)
  elem_map (y ∷ xs) x (inr h) = inr (elem_map xs x h)

  pub elem_of_map : (xs : List X) (y : Y) → Elem (map f xs) y → (x : X) × Elem xs x × (f x ≡ y)
  elem_of_map [] y h = absurd h
  elem_of_map (x ∷ xs) y (inl e) = (x, inl refl, e)
  elem_of_map (x ∷ xs) y (inr h) = let r = elem_of_map xs y h in (r.0, inr r.1, r.2)

-- two keys are one, or their order tells them apart
pub one_or_other : (key other : Key) → (key ≡ other) ⊎ (eq_by_cmp key_cmp key other ≡ false)
one_or_other key other =
    elim (eq_by_cmp key_cmp key other) as (λ b. eq_by_cmp key_cmp key other ≡ b → (key ≡ other) ⊎ (eq_by_cmp key_cmp key other ≡ false)) [
      | true ↦ λ e. inl (tells_apart key_cmp_exact key other e)
      | false ↦ λ e. inr e
    ] refl

at_itself : (key other : Key) → other ≡ key → eq_by_cmp key_cmp key other ≡ true
at_itself key other e = ap (eq_by_cmp key_cmp key) e ∙ (eq_by_cmp_equiv key_cmp_total).refl key

-- the keys of entries are those that a look-up finds
module _ {X : Type 0} where
  pub found_key : (es : List (Key × X)) (q : Key) (x : X) → lookup (eq_by_cmp key_cmp q) es ≡ Some x → Elem (map (λ e. e.0) es) q
  found_key [] q x e = absurd cc
  found_key (f ∷ es) q x e =
      elim (one_or_other q f.0) [
        | inl same ↦ inl (sym same)
        | inr apart ↦ inr (found_key es q x (ap (λ b. cond b (Some f.1) (lookup (eq_by_cmp key_cmp q) es)) (sym apart) ∙ e))
      ]

  pub key_found : (es : List (Key × X)) (q : Key) → Elem (map (λ e. e.0) es) q → (x : X) × (lookup (eq_by_cmp key_cmp q) es ≡ Some x)
  key_found [] q h = absurd h
  key_found (f ∷ es) q (inl e) = (f.1, ap (λ b. cond b (Some f.1) (lookup (eq_by_cmp key_cmp q) es)) (at_itself q f.0 e))
  key_found (f ∷ es) q (inr h) =
      elim (one_or_other q f.0) [
        | inl same ↦ (f.1, ap (λ b. cond b (Some f.1) (lookup (eq_by_cmp key_cmp q) es)) (at_itself q f.0 (sym same)))
        | inr apart ↦ let r = key_found es q h in (r.0, ap (λ b. cond b (Some f.1) (lookup (eq_by_cmp key_cmp q) es)) apart ∙ r.1)
      ]

module _ {X : Type 0} where
  found_is : (es : List (Key × X)) (q : Key) → find key_cmp q es ≡ lookup (eq_by_cmp key_cmp q) es
  found_is [] q = refl
  found_is (e ∷ es) q = ap (cond (eq_by_cmp key_cmp q e.0) (Some e.1)) (found_is es q)

  pub elem_keys : (m : FinMap key_cmp X) (q : Key) (x : X) → get m q ≡ Some x → Elem (keys m) q
  elem_keys m q x e = found_key (entries m) q x (sym (found_is (entries m) q) ∙ sym (get-entries m q) ∙ e)

  pub get_elem : (m : FinMap key_cmp X) (q : Key) → Elem (keys m) q → (x : X) × (get m q ≡ Some x)
  get_elem m q h = let r = key_found (entries m) q h in (r.0, get-entries m q ∙ found_is (entries m) q ∙ r.1)

pub some_of : {X : Type 0} (o : Option X) → IsSome o → (x : X) × (o ≡ Some x)
some_of None e = absurd cc
some_of (Some x) e = (x, refl)
