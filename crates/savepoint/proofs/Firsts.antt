-- Where a subtransaction's mark stands in the list of marks.
use Rattle.std.proofs.Common.{◌≡◌, ℕ, zero, suc, ◌<◌, ◌==◌, true, not, List, [], ◌∷◌, length, Option, Some, None, refl, ap, ◌∙◌, arith, is_some}
use Rattle.std.specs.Prelude.{slice_get}
use Rattle.std.specs.List.{prefix_len}
use Rattle.std.specs.Option.{option_map}
use Rattle.std.proofs.lemmas.Grind.{common_steps}
use Rattle.savepoint.specs.Savepoints.{mark_at, subs_of}

-- no mark is the subtransaction's
abbrev pub IsUnmarked : {M : Type 0} → ℕ → List (ℕ × M) → Type 0
IsUnmarked sub marks = (j : ℕ) → slice_get (subs_of marks) j ≡ Some sub → ⊥

-- the mark at this index is the first of the subtransaction's
pub record IsFirst {M : Type 0} (sub index : ℕ) (marks : List (ℕ × M)) : Type 0 where
  pub here : slice_get (subs_of marks) index ≡ Some sub
  pub before : (j : ℕ) → j < index → slice_get (subs_of marks) j ≡ Some sub → ⊥

-- the mark at an index
abbrev pub mark_in : {M : Type 0} → List (ℕ × M) → ℕ → Option M
mark_in {M} marks index = option_map (λ (m : ℕ × M). m.1) (slice_get marks index)

-- how many marks stand before the subtransaction's
abbrev pub count_before : {M : Type 0} → ℕ → List (ℕ × M) → ℕ
count_before {M} sub marks = prefix_len (λ (m : ℕ × M). not (m.0 == sub)) marks

pub count_before-IsFirst : {M : Type 0} (sub index : ℕ) (marks : List (ℕ × M)) → IsFirst sub index marks → count_before sub marks ≡ index
count_before-IsFirst sub index [] h = let e = h.here in cc
count_before-IsFirst sub zero (m ∷ marks) h = let e = h.here in grind (arith, common_steps)
count_before-IsFirst sub (suc index) (m ∷ marks) h =
    let other = h.before 0 (omega arith) in
    let rest = count_before-IsFirst sub index marks (record { here = h.here; before = λ j lt e. h.before (suc j) (omega arith) e }) in
    grind (arith, common_steps)

pub count_before-IsUnmarked : {M : Type 0} (sub : ℕ) (marks : List (ℕ × M)) → IsUnmarked sub marks → count_before sub marks ≡ length marks
count_before-IsUnmarked sub [] h = refl
count_before-IsUnmarked sub (m ∷ marks) h =
    let other = h 0 in
    let rest = count_before-IsUnmarked sub marks (λ j e. h (suc j) e) in
    grind (arith, common_steps)

-- a subtransaction's mark is the one behind those that stand before it
mark_at-count_before : {M : Type 0} (sub : ℕ) (marks : List (ℕ × M)) → mark_at sub marks ≡ mark_in marks (count_before sub marks)
mark_at-count_before sub [] = refl
mark_at-count_before sub (m ∷ marks) = let rest = mark_at-count_before sub marks in grind (arith, common_steps)

pub mark_at-IsFirst : {M : Type 0} (sub index : ℕ) (marks : List (ℕ × M)) → IsFirst sub index marks → mark_at sub marks ≡ mark_in marks index
mark_at-IsFirst sub index marks h = mark_at-count_before sub marks ∙ ap (mark_in marks) (count_before-IsFirst sub index marks h)

there : {M : Type 0} (sub index : ℕ) (marks : List (ℕ × M)) → slice_get (subs_of marks) index ≡ Some sub → is_some (mark_in marks index) ≡ true
there sub index [] e = cc
there sub zero (m ∷ marks) e = refl
there sub (suc index) (m ∷ marks) e = there sub index marks e

pub is_some-mark_at-IsFirst : {M : Type 0} (sub index : ℕ) (marks : List (ℕ × M)) → IsFirst sub index marks → is_some (mark_at sub marks) ≡ true
is_some-mark_at-IsFirst sub index marks h = ap is_some (mark_at-IsFirst sub index marks h) ∙ there sub index marks h.here

none_behind : {M : Type 0} (marks : List (ℕ × M)) → mark_in marks (length marks) ≡ None
none_behind [] = refl
none_behind (m ∷ marks) = none_behind marks

pub mark_at-IsUnmarked : {M : Type 0} (sub : ℕ) (marks : List (ℕ × M)) → IsUnmarked sub marks → mark_at sub marks ≡ None
mark_at-IsUnmarked sub marks h = mark_at-count_before sub marks ∙ ap (mark_in marks) (count_before-IsUnmarked sub marks h) ∙ none_behind marks
