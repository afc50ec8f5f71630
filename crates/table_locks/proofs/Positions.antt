-- The search for a position among the entries of a journal, from the newest on.
--     ends_from      where the entries end from one on
--     found_next      the position of the next one
--     still_behind      one more is not the one that ends there
--     in_none      no entry ends there
use Rattle.std.proofs.Common.{◌≡◌, ℕ, suc, ◌+◌, ◌<◌, List, [], ◌∷◌, length, get_or, drop, drop-cons, map, Some, refl, sym, ap, subst, ◌∙◌, inl, inr, arith}
use Rattle.std.specs.Prelude.{slice_get, option_map}
use Rattle.std.specs.List.{Contains}
use Rattle.std.proofs.lemmas.Option.{slice_get-map, slice_get_read}
use Rattle.std.proofs.lemmas.List.Elements.{Contains-push_cases, Contains-append_cases}
use Rattle.engine.specs.declared.entry.Entry as entry_type
use Rattle.table_locks.specs.Reading.{positions_of}

module _ (e : entry_type.Entry) where
  pub found_next : (entries : List entry_type.Entry) (index : ℕ) → index < length entries → e ≡ get_or entries index e
      → slice_get (positions_of entries) (index + 1) ≡ Some e.end
  found_next entries index below is =
      let one : index + 1 ≡ suc index = omega arith in
      ap (slice_get (positions_of entries)) one ∙ slice_get-map (λ (f : entry_type.Entry). f.end) entries index
      ∙ ap (option_map (λ (f : entry_type.Entry). f.end)) (slice_get_read entries (length entries) index e refl below is)

-- where the entries end from one on
abbrev pub ends_from : ℕ → List entry_type.Entry → List ℕ
ends_from index entries = map (λ (e : entry_type.Entry). e.end) (drop index entries)

alone : (end position : ℕ) → Contains (end ∷ []) position → end ≡ position
alone end position has =
    elim (Contains-push_cases [] end position has) [
      | inl none ↦ absurd (omega (arith, none.1))
      | inr same ↦ same
    ]

-- one more is not the one that ends there
pub still_behind : (entries : List entry_type.Entry) (index position : ℕ) (e : entry_type.Entry) → index < length entries → e ≡ get_or entries index e
    → ¬ Contains (ends_from (index + 1) entries) position → ¬ (e.end ≡ position) → ¬ Contains (ends_from index entries) position
still_behind entries index position e below is behind here has =
    let one : index + 1 ≡ suc index = omega arith in
    let both : ends_from index entries ≡ e.end ∷ ends_from (suc index) entries =
    ap (map (λ (f : entry_type.Entry). f.end)) (drop-cons entries index e below)
    ∙ ap (λ (f : entry_type.Entry). f.end ∷ ends_from (suc index) entries) (sym is) in
    elim (Contains-append_cases (e.end ∷ []) (ends_from (suc index) entries) position (subst (λ (ns : List ℕ). Contains ns position) both has)) [
      | inl first ↦ here (alone e.end position first)
      | inr later ↦ behind (subst (λ n. Contains (ends_from n entries) position) (sym one) later)
    ]

-- where no entry ends there, and it isn't 0, it is no position of theirs
pub in_none : (entries : List entry_type.Entry) (position : ℕ) → ¬ (0 ≡ position) → ¬ Contains (ends_from 0 entries) position
    → ¬ Contains (positions_of entries) position
in_none entries position apart none has =
    elim (Contains-append_cases (0 ∷ []) (map (λ (e : entry_type.Entry). e.end) entries) position has) [
      | inl first ↦ apart (alone 0 position first)
      | inr later ↦ none later
    ]
