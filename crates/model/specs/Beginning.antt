-- Beginnings of lists, and the end of the last of some commits.
--     Begins      the first list is a beginning of the second
--     last_end      where the log goes on behind the last commit
use Rattle.std.specs.Prelude.{◌≡◌, ℕ, List, ◌++◌, fold}

-- the first list is a beginning of the second
abbrev pub Begins : {X : Type 0} → List X → List X → Type 0
Begins {X} front whole = (rest : List X) × (whole ≡ front ++ rest)

-- where the publisher's log goes on behind the last of some commits, by their ends; 0 before the first
abbrev pub last_end : List ℕ → ℕ
last_end ends = fold (λ (before end : ℕ). end) 0 ends
