-- An array that is read item by item.
use Rattle.std.proofs.Common.{◌≡◌, ℕ, zero, suc, ◌+◌, ◌<◌, List, [], ◌∷◌, ◌++◌, length, get_or, take, Option, Some, None, refl, arith}
use Rattle.std.proofs.lemmas.List.{take_more}
use Rattle.toml.specs.Data.{Data}
use Rattle.toml.specs.View.{view, items_view}
use Rattle.toml.specs.declared.value.Value.{Value}
use Rattle.catalog.specs.Document.{◌>>=◌, each}

-- a first item, and others of which the last is pushed
front_push : {A : Type 0} (first : Option A) (rest more : Option (List A)) (xs : List A) (x : A)
    → (first >>= (λ y. rest >>= (λ ys. Some (y ∷ ys)))) ≡ Some xs
    → ((ys : List A) → rest ≡ Some ys → more ≡ Some (ys ++ x ∷ []))
    → (first >>= (λ y. more >>= (λ ys. Some (y ∷ ys)))) ≡ Some (xs ++ x ∷ [])
front_push None rest more xs x h step = cc
front_push (Some y) None more xs x h step = cc
front_push (Some y) (Some ys) more xs x h step =
    let e : more ≡ Some (ys ++ x ∷ []) = step ys refl in
    let s : y ∷ ys ≡ xs = cc in
    rw (e, ← s)

front_none : {A : Type 0} (first : Option A) → (first >>= (λ y. None >>= (λ (ys : List A). Some (y ∷ ys)))) ≡ None
front_none None = refl
front_none (Some y) = refl

module _ {A : Type 0} (f : Data → Option A) where
  pub each-push : (vs : List Value) (v : Value) (xs : List A) (x : A) → each f (items_view vs) ≡ Some xs → f (view v) ≡ Some x → each f (items_view (vs ++ v ∷ [])) ≡ Some (xs ++ x ∷ [])
  each-push [] v xs x before here = let e : [] ≡ xs = cc in rw (here, ← e)
  each-push (w ∷ vs) v xs x before here =
      front_push (f (view w)) (each f (items_view vs)) _ xs x before (λ ys h. each-push vs v ys x h here)

  -- one more item, as at a step of a loop
  pub each_more : (vs : List Value) (i : ℕ) (d : Value) (xs : List A) (x : A) → i < length vs → each f (items_view (take i vs)) ≡ Some xs → f (view (get_or vs i d)) ≡ Some x → each f (items_view (take (i + 1) vs)) ≡ Some (xs ++ x ∷ [])
  each_more vs i d xs x within before here = rw (take_more vs i d within) (each-push (take i vs) (get_or vs i d) xs x before here)

  -- an item that f can't read
  pub each_none : (vs : List Value) (i : ℕ) (d : Value) → i < length vs → f (view (get_or vs i d)) ≡ None → each f (items_view vs) ≡ None
  each_none [] i d within fails = absurd (omega arith)
  each_none (v ∷ vs) zero d within fails = rw fails
  each_none (v ∷ vs) (suc i) d within fails = rw (each_none vs i d (omega arith) fails) (front_none (f (view v)))
