-- Lists read by `get_elem?`.
use Rattle.std.proofs.Common.{◌≡◌, ℕ, zero, suc, ◌<◌, ◌⊎◌, List, [], ◌∷◌, ◌++◌, length, sym, refl, ap, inl, inr, ⊎_elim, arith}
use mathlib.Core.Option.{some, some-injective, some-ne-none}
use lib.ListN.{get_elem?}

module _ {A : Type 0} where
  pub within : (l : List A) (i : ℕ) (a : A) → get_elem? l i ≡ some a → i < length l
  within [] i a e = absurd (some-ne-none a (sym e))
  within (x ∷ xs) zero a e = omega arith
  within (x ∷ xs) (suc i) a e = let h = within xs i a e in omega arith

  -- in a list with one more at its end
  pub at_end : (l : List A) (x : A) (i : ℕ) (a : A) → get_elem? (l ++ x ∷ []) i ≡ some a
      → (get_elem? l i ≡ some a) ⊎ ((i ≡ length l) × (x ≡ a))
  at_end [] x zero a e = inr (refl, some-injective x a e)
  at_end [] x (suc i) a e = absurd (some-ne-none a (sym e))
  at_end (y ∷ ys) x zero a e = inl e
  at_end (y ∷ ys) x (suc i) a e = ⊎_elim (λ t. inl t) (λ t. inr (ap suc t.0, t.1)) (at_end ys x i a e)
