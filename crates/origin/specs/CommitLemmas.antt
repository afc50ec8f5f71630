-- Lists of end LSNs that grow, and the positions behind them.
use Rattle.std.specs.Prelude.{◌≡◌, ℕ, ◌+◌, List, [], ◌∷◌, ◌++◌, length, refl}
use Rattle.std.proofs.Common.{sym, ap, ◌∙◌, append_assoc, append-nil, length-append}
use Rattle.origin.specs.declared.position.Published.{Published}
use Rattle.origin.specs.Commits.{published_after}
use Rattle.model.specs.Beginning.{Begins, last_end}
use Rattle.model.specs.BeginningLemmas.{last_end-append}

pub nothing_begins : (ends : List ℕ) → Begins [] ends
nothing_begins ends = (ends, refl)

pub all_begins : (ends : List ℕ) → Begins ends ends
all_begins ends = ([], sym (append-nil ends))

pub begins_longer : (front ends more : List ℕ) → Begins front ends → Begins front (ends ++ more)
begins_longer front ends more b =
    (b.0 ++ more, ap (λ l. l ++ more) b.1 ∙ append_assoc front b.0 more)

-- the position behind one more commit
pub next_position : (ends : List ℕ) (p : Published) → p.commits ≡ length ends + 1
    → p ≡ published_after (ends ++ p.end_lsn ∷ [])
next_position ends p next =
    let end : List ℕ = p.end_lsn ∷ [] in
    let count : p.commits ≡ length (ends ++ end) = next ∙ sym (length-append ends end) in
    let last : p.end_lsn ≡ last_end (ends ++ p.end_lsn ∷ []) = sym (last_end-append ends p.end_lsn) in
    λ i. record { commits = count i; end_lsn = last i }
