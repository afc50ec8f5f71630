-- Keys in a run, of which some were struck, and keys beside it, as one list in key order.
use Rattle.std.specs.Prelude.{◌≡◌, ℕ, ◌+◌, ◌<◌, ◌^◌, List, [], ◌∷◌, length, Option, Some, None, MatchOption, ⊤, if◌then◌else◌}
use Rattle.std.specs.Borrow.{Bor}
use Rattle.std.specs.Ordering.{is_lt}
use Rattle.std.specs.List.Sorted.{IsStrictlySortedBy}
use Rattle.std.specs.Map.{keys_of, values_of}
use Rattle.model.specs.declared.key.Key.{Key}
use Rattle.model.specs.Key.{key_cmp}
use Rattle.rows.specs.Hashed.{number_for}

-- a key with its number before others, unless it was struck
abbrev pub live_at : Key → Option ℕ → List (Key × ℕ) → List (Key × ℕ)
live_at key None es = es
live_at key (Some number) es = (key, number) ∷ es

-- the keys of a run that were not struck, with their numbers
abbrev pub live : List (Key × Option ℕ) → List (Key × ℕ)
live [] = []
live (e ∷ es) = live_at e.0 e.1 (live es)

-- a key with its number, behind those of the others that are below it and before the rest of them
abbrev pub placed : Key × ℕ → (List (Key × ℕ) → List (Key × ℕ)) → List (Key × ℕ) → List (Key × ℕ)
placed e rest [] = e ∷ rest []
placed e rest (f ∷ fs) = if is_lt (key_cmp f.0 e.0) then f ∷ placed e rest fs else e ∷ rest (f ∷ fs)

-- two lists in key order as one
abbrev pub merged : List (Key × ℕ) → List (Key × ℕ) → List (Key × ℕ)
merged [] fs = fs
merged (e ∷ es) fs = placed e (merged es) fs

-- The run's keys ascend, and none that was not struck lies beside it too.
pub record IsInOrder (run : List (Key × Option ℕ)) (beside : List (Key × ℕ)) : Type 0 where
  pub ascends : IsStrictlySortedBy key_cmp (keys_of run)
  pub apart : (key : Key) (number : ℕ) → number_for (live run) key ≡ Some number
      → number_for beside key ≡ None
  pub fits : length run + length beside < 2 ^ 63

-- the first of a list and the others; no first stands for none at all
abbrev pub with_ahead : Option (Bor Key × Bor ℕ) → List (Key × ℕ) → List (Key × ℕ)
with_ahead None es = []
with_ahead (Some e) es = (e.0.now, e.1.now) ∷ es

-- the numbers that are left of a run and of what lies beside it, in the order of their keys
abbrev pub numbers_left : List (Key × Option ℕ) → Option (Bor Key × Bor ℕ) → List (Key × ℕ) → List ℕ
numbers_left run ahead beside = values_of (merged (live run) (with_ahead ahead beside))

-- the first key was not struck, if there is one
abbrev pub IsFirstLive : List (Key × Option ℕ) → Type 0
IsFirstLive [] = ⊤
IsFirstLive (e ∷ es) = (number : ℕ) × (e.1 ≡ Some number)

-- a number of the run comes next, and what follows it is left of the run
abbrev pub IsRunNext : List (Key × Option ℕ) → Option (Bor Key × Bor ℕ) → ℕ
    → List (Key × Option ℕ) → Type 0
IsRunNext run ahead number rest = (beside : List (Key × ℕ))
    → numbers_left run ahead beside ≡ number ∷ numbers_left rest ahead beside

-- the first beside the run comes next, if there is one, or nothing is left
abbrev pub IsBesideNext : List (Key × Option ℕ) → Option (Bor Key × Bor ℕ) → Type 0
IsBesideNext run ahead = (beside : List (Key × ℕ))
    → merged (live run) (with_ahead ahead beside) ≡ with_ahead ahead (merged (live run) beside)

-- the first number that was left, and the others are left; or none was left
abbrev pub YieldsNumber : List ℕ → Option ℕ → List ℕ → Type 0
YieldsNumber old number new =
    MatchOption number ((old ≡ []) × (new ≡ [])) (λ first. old ≡ first ∷ new)
