-- How far a file has come.
use Rattle.std.specs.Prelude.{◌≡◌, ℕ, ◌-◌, ◌^◌, ◌⊎◌, List, [], ◌∷◌, ◌++◌, length}

-- This position was reached too; or more were told than can be counted, and nothing is.
abbrev pub HasReached : List ℕ → List ℕ → ℕ → Type 0
HasReached old new end = (new ≡ old ++ end ∷ []) ⊎ ((new ≡ old) × (length old ≡ 2 ^ 64 - 1))
