-- What `each` gives: by a loop, of the elements so far and then of the rest; and in each place.
use Rattle.std.proofs.Common.{◌≡◌, ℕ, zero, suc, List, [], ◌∷◌, ◌++◌, length, drop, Option, Some, None, option_map, refl, sym, ap, ◌∙◌}
use Rattle.std.specs.List.{slice_get}
use Rattle.std.proofs.lemmas.Option.{same_Some}
use Rattle.std.specs.Option.{option_and_then}
use Rattle.relcache.specs.Steps.{each}

-- the first i elements of xs gave these
abbrev pub EachSoFar : {A B : Type 0} → (A → Option B) → List A → ℕ → List B → Type 0
EachSoFar f xs i before = each f xs ≡ option_map (λ rest. before ++ rest) (each f (drop i xs))

-- as many as there are elements
pub length-each : {A B : Type 0} (f : A → Option B) (xs : List A) (ys : List B) → each f xs ≡ Some ys → length ys ≡ length xs
length-each f [] ys e = cc
length-each {B = B} f (x ∷ xs) ys e = of_first (f x) (each f xs) ys (length-each f xs) e
  where
    of_first : (o : Option B) (rest : Option (List B)) (ys : List B) → ((zs : List B) → rest ≡ Some zs → length zs ≡ length xs) → option_and_then (λ y. option_map (λ zs. y ∷ zs) rest) o ≡ Some ys → length ys ≡ suc (length xs)
    of_first None rest ys same e = cc
    of_first (Some y) None ys same e = cc
    of_first (Some y) (Some zs) [] same e = cc
    of_first (Some y) (Some zs) (v ∷ vs) same e = let tails : zs ≡ vs = cc in ap suc (same vs (ap Some tails))

-- ---- in each place

module _ {A B : Type 0} (f : A → Option B) where
  -- the first element's, before those of the rest
  with_first : Option B → Option (List B) → Option (List B)
  with_first o rest = option_and_then (λ y. option_map (λ ys. y ∷ ys) rest) o

  firsts : (o : Option B) (rest : Option (List B)) (ys : List B) → option_and_then (λ y. option_map (λ zs. y ∷ zs) rest) o ≡ Some ys → (z : B) × (zs : List B) × (o ≡ Some z) × (rest ≡ Some zs) × (z ∷ zs ≡ ys)
  firsts None rest ys e = cc
  firsts (Some z) None ys e = cc
  firsts (Some z) (Some zs) ys e = (z, zs, refl, refl, same_Some _ _ e)

  -- what it gives of an element stands in that element's place
  pub each_gives : (xs : List A) (ys : List B) (k : ℕ) (x : A) → each f xs ≡ Some ys → slice_get xs k ≡ Some x → (y : B) × (f x ≡ Some y) × (slice_get ys k ≡ Some y)
  each_gives [] ys k x e at = cc
  each_gives (w ∷ ws) ys zero x e at =
      let parts = firsts (f w) (each f ws) ys e in
      (parts.0, ap f (sym (same_Some w x at)) ∙ parts.2, ap (λ (l : List B). slice_get l 0) (sym parts.4))
  each_gives (w ∷ ws) ys (suc k) x e at =
      let parts = firsts (f w) (each f ws) ys e in
      let rest = each_gives ws parts.1 k x parts.3 at in
      (rest.0, rest.1, ap (λ (l : List B). slice_get l (suc k)) (sym parts.4) ∙ rest.2)

  -- it gives nothing where some element gives nothing
  pub each_fails : (xs : List A) → each f xs ≡ None → (k : ℕ) × (x : A) × (slice_get xs k ≡ Some x) × (f x ≡ None)
  each_fails [] e = cc
  each_fails (w ∷ ws) e = here (f w) refl (each_fails ws)
    where
      none_left : (rest : Option (List B)) (y : B) → option_map (λ ys. y ∷ ys) rest ≡ None → rest ≡ None
      none_left None y h = refl
      none_left (Some ys) y h = cc

      here : (o : Option B) → f w ≡ o → (each f ws ≡ None → (k : ℕ) × (x : A) × (slice_get ws k ≡ Some x) × (f x ≡ None)) → (k : ℕ) × (x : A) × (slice_get (w ∷ ws) k ≡ Some x) × (f x ≡ None)
      here None is later = (0, w, refl, is)
      here (Some y) is later =
          let none : option_map (λ ys. y ∷ ys) (each f ws) ≡ None = ap (λ o. option_and_then (λ z. option_map (λ ys. z ∷ ys) (each f ws)) o) (sym is) ∙ e in
          let rest = later (none_left (each f ws) y none) in
          (suc rest.0, rest.1, rest.2, rest.3)
