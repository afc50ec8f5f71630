-- What tests over a list say of what stands in its places.
use Rattle.std.proofs.Common.{◌≡◌, ℕ, zero, suc, ◌<◌, ◌≤◌, Bool, true, false, not, ◌||◌, ◌&&◌, cond, ltb, List, [], ◌∷◌, length, get_or, Option, Some, None, refl, sym, ap, ◌∙◌, arith}
use Rattle.std.specs.List.{slice_get, position, position_or_len, list_any, list_all}
use Rattle.std.proofs.lemmas.Bool.{or_parts, and_parts, not-true, false≢true, ltb-false}
use Rattle.std.proofs.lemmas.Option.{slice_get-get_or, slice_get_within, get_or_from_slice_get, same_Some}
use Rattle.std.proofs.lemmas.List.Quantifiers.{position-Some}
use Rattle.std.proofs.lemmas.List.Sums.{fails_before_first}

-- ---- the first that passes

module _ {A : Type 0} (p : A → Bool) where
  pub position_passes : (xs : List A) (i : ℕ) → position p xs ≡ Some i → (x : A) × (slice_get xs i ≡ Some x) × (p x ≡ true)
  position_passes [] i e = cc
  position_passes (y ∷ ys) i e =
      let h = position-Some p (y ∷ ys) i y e in
      (get_or (y ∷ ys) i y, slice_get-get_or (y ∷ ys) i y h.0, h.1)

  pub position_first : (xs : List A) (i k : ℕ) (x : A) → position p xs ≡ Some i → k < i → slice_get xs k ≡ Some x → p x ≡ false
  position_first xs i k x e before at =
      let h = position-Some p xs i x e in
      ap p (sym (get_or_from_slice_get xs k x x at)) ∙ h.2 k before

  past_all : (b : Bool) (n : ℕ) → cond b (Some n) None ≡ None → b ≡ false
  past_all true n e = cc
  past_all false n e = refl

  pub position_none : (xs : List A) (k : ℕ) (x : A) → position p xs ≡ None → slice_get xs k ≡ Some x → p x ≡ false
  position_none xs k x e at =
      let past : length xs ≤ position_or_len p xs = ltb-false _ _ (past_all (ltb (position_or_len p xs) (length xs)) (position_or_len p xs) e) in
      let within = slice_get_within xs k x at in
      ap p (sym (get_or_from_slice_get xs k x x at)) ∙ fails_before_first p xs k x (omega arith)

  -- the one place where it passes
  pub position_is : (xs : List A) (k : ℕ) (x : A) → slice_get xs k ≡ Some x → p x ≡ true → ((i : ℕ) (y : A) → slice_get xs i ≡ Some y → p y ≡ true → i ≡ k) → position p xs ≡ Some k
  position_is xs k x at passes one = here (position p xs) refl
    where
      here : (o : Option ℕ) → position p xs ≡ o → position p xs ≡ Some k
      here None is = absurd (false≢true (sym (position_none xs k x is at) ∙ passes))
      here (Some i) is =
          let found = position_passes xs i is in
          is ∙ ap Some (one i found.0 found.1 found.2)

  pub position_is_none : (xs : List A) → ((i : ℕ) (y : A) → slice_get xs i ≡ Some y → ¬ (p y ≡ true)) → position p xs ≡ None
  position_is_none xs fails = here (position p xs) refl
    where
      here : (o : Option ℕ) → position p xs ≡ o → position p xs ≡ None
      here None is = is
      here (Some i) is =
          let found = position_passes xs i is in
          absurd (fails i found.0 found.1 found.2)

  -- ---- some, and all

  pub list_any_finds : (xs : List A) → list_any p xs ≡ true → (k : ℕ) × (x : A) × (slice_get xs k ≡ Some x) × (p x ≡ true)
  list_any_finds [] e = cc
  list_any_finds (y ∷ ys) e = here (p y) refl (list_any_finds ys)
    where
      here : (b : Bool) → p y ≡ b → (list_any p ys ≡ true → (k : ℕ) × (x : A) × (slice_get ys k ≡ Some x) × (p x ≡ true)) → (k : ℕ) × (x : A) × (slice_get (y ∷ ys) k ≡ Some x) × (p x ≡ true)
      here true is later = (0, y, refl, is)
      here false is later =
          let rest = later (ap (λ b. b || list_any p ys) (sym is) ∙ e) in
          (suc rest.0, rest.1, rest.2, rest.3)

  pub list_any_lacks : (xs : List A) (k : ℕ) (x : A) → list_any p xs ≡ false → slice_get xs k ≡ Some x → p x ≡ false
  list_any_lacks [] k x none at = cc
  list_any_lacks (y ∷ ys) zero x none at = ap p (sym (same_Some y x at)) ∙ (or_parts (p y) (list_any p ys) none).0
  list_any_lacks (y ∷ ys) (suc k) x none at = list_any_lacks ys k x (or_parts (p y) (list_any p ys) none).1 at

  pub list_all_passes : (xs : List A) (k : ℕ) (x : A) → list_all p xs ≡ true → slice_get xs k ≡ Some x → p x ≡ true
  list_all_passes [] k x all at = cc
  list_all_passes (y ∷ ys) zero x all at = ap p (sym (same_Some y x at)) ∙ (and_parts (p y) (list_all p ys) all).0
  list_all_passes (y ∷ ys) (suc k) x all at = list_all_passes ys k x (and_parts (p y) (list_all p ys) all).1 at

-- ---- not all

not_and : (a b : Bool) → not (a && b) ≡ (not a || not b)
not_and true b = refl
not_and false b = refl

not_all : {A : Type 0} (p : A → Bool) (xs : List A) → not (list_all p xs) ≡ list_any (λ x. not (p x)) xs
not_all p [] = refl
not_all p (y ∷ ys) = not_and (p y) (list_all p ys) ∙ ap (λ b. not (p y) || b) (not_all p ys)

pub list_all_fails : {A : Type 0} (p : A → Bool) (xs : List A) → list_all p xs ≡ false → (k : ℕ) × (x : A) × (slice_get xs k ≡ Some x) × (p x ≡ false)
list_all_fails p xs e =
    let found = list_any_finds (λ x. not (p x)) xs (sym (not_all p xs) ∙ ap not e) in
    (found.0, found.1, found.2, not-true _ found.3)
