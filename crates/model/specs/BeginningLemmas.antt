-- The laws of the end of the last commit.
--     last_end-append      behind one commit more
use Rattle.std.specs.Prelude.{◌≡◌, ℕ, List, [], ◌∷◌, ◌++◌}
use Rattle.std.proofs.lemmas.List.Sums.{fold-append}
use Rattle.model.specs.Beginning.{last_end}

pub last_end-append : (ends : List ℕ) (end : ℕ) → last_end (ends ++ end ∷ []) ≡ end
last_end-append ends end = fold-append (λ (before end : ℕ). end) 0 ends (end ∷ [])
