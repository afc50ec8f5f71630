-- The map from subtransactions to indexes, as marks come and go.
use Rattle.std.proofs.Common.{◌≡◌, ℕ, ◌+◌, ◌<◌, ◌≤◌, true, false, List, [], ◌∷◌, ◌++◌, length, take, Option, Some, None, refl, sym, ap, ◌∙◌, arith, ⊎_elim, inl, inr}
use Rattle.std.specs.Prelude.{slice_get, is_some, zero, suc, ◌⊎◌}
use Rattle.std.specs.Ordering.{nat_cmp, is_eq}
use Rattle.std.specs.BTreeMap.{BTreeMap, get, Updates, UpdatesBy}
use Rattle.std.proofs.lemmas.Bool.{cases_eq}
use Rattle.std.proofs.lemmas.Bool.Decides.{nat_tests}
use Rattle.std.proofs.lemmas.Option.{slice_get_within, same_Some}
use Rattle.std.specs.Option.{option_map}
use Rattle.std.proofs.lemmas.List.{map-append, length-map}
use Rattle.std.proofs.lemmas.Grind.{common_steps}
use Rattle.std.proofs.Math.Seq.{take-length, take-append_seam}
use Rattle.savepoint.specs.Savepoints.{mark_at, before_mark, subs_of, HasIndexes, with_mark}
use Rattle.savepoint.proofs.Firsts.{IsFirst, IsUnmarked, mark_at-IsFirst, is_some-mark_at-IsFirst, mark_at-IsUnmarked, count_before-IsFirst, count_before-IsUnmarked}

is_eq-nat_cmp_apart : (x y : ℕ) → (x ≡ y → ⊥) → is_eq (nat_cmp x y) ≡ false
is_eq-nat_cmp_apart x y ne = grind (arith, nat_tests)

slice_get-front : {A : Type 0} (xs ys : List A) (i : ℕ) → i < length xs → slice_get (xs ++ ys) i ≡ slice_get xs i
slice_get-front [] ys i lt = absurd (omega arith)
slice_get-front (x ∷ xs) ys zero lt = refl
slice_get-front (x ∷ xs) ys (suc i) lt = slice_get-front xs ys i (omega arith)

slice_get-last : {A : Type 0} (xs : List A) (y : A) → slice_get (xs ++ y ∷ []) (length xs) ≡ Some y
slice_get-last [] y = refl
slice_get-last (x ∷ xs) y = slice_get-last xs y

-- an index of a list with one more is one of the list's, or the last
last_or_front : {A : Type 0} (xs : List A) (y z : A) (i : ℕ) → slice_get (xs ++ y ∷ []) i ≡ Some z → ((i ≡ length xs) × (y ≡ z)) ⊎ (slice_get xs i ≡ Some z)
last_or_front [] y z zero e = inl (refl, cc)
last_or_front [] y z (suc i) e = cc
last_or_front (x ∷ xs) y z zero e = inr e
last_or_front (x ∷ xs) y z (suc i) e = elim (last_or_front xs y z i e) [ inl h ↦ inl (omega arith, h.1) | inr h ↦ inr h ]

-- ---- what a look-up says

pub first_from_get : {M : Type 0} (indexes : BTreeMap ℕ ℕ) (marks : List (ℕ × M)) (sub index : ℕ) → HasIndexes indexes marks → get nat_cmp indexes sub ≡ Some index → IsFirst sub index marks
first_from_get indexes marks sub index h e = record {
  here = h.named sub index e;
  before = λ j lt at. let same : Some index ≡ Some j = sym e ∙ h.found sub j at in let equal : index ≡ j = cc in omega arith;
}

pub unmarked_from_get : {M : Type 0} (indexes : BTreeMap ℕ ℕ) (marks : List (ℕ × M)) (sub : ℕ) → HasIndexes indexes marks → get nat_cmp indexes sub ≡ None → IsUnmarked sub marks
unmarked_from_get indexes marks sub h e = λ j at. let found = h.found sub j at in cc

pub mark_at-get : {M : Type 0} (indexes : BTreeMap ℕ ℕ) (marks : List (ℕ × M)) (sub index : ℕ) (m : ℕ × M) → HasIndexes indexes marks → get nat_cmp indexes sub ≡ Some index → slice_get marks index ≡ Some m → mark_at sub marks ≡ Some m.1
mark_at-get {M} indexes marks sub index m h e at =
    mark_at-IsFirst sub index marks (first_from_get indexes marks sub index h e) ∙ ap (λ o. option_map (λ (n : ℕ × M). n.1) o) at

pub mark_at-none : {M : Type 0} (indexes : BTreeMap ℕ ℕ) (marks : List (ℕ × M)) (sub : ℕ) → HasIndexes indexes marks → get nat_cmp indexes sub ≡ None → mark_at sub marks ≡ None
mark_at-none indexes marks sub h e = mark_at-IsUnmarked sub marks (unmarked_from_get indexes marks sub h e)

pub before_mark-get : {M : Type 0} (indexes : BTreeMap ℕ ℕ) (marks : List (ℕ × M)) (sub index : ℕ) → HasIndexes indexes marks → get nat_cmp indexes sub ≡ Some index → before_mark sub marks ≡ take index marks
before_mark-get indexes marks sub index h e = ap (λ n. take n marks) (count_before-IsFirst sub index marks (first_from_get indexes marks sub index h e))

pub before_mark-none : {M : Type 0} (indexes : BTreeMap ℕ ℕ) (marks : List (ℕ × M)) (sub : ℕ) → HasIndexes indexes marks → get nat_cmp indexes sub ≡ None → before_mark sub marks ≡ marks
before_mark-none indexes marks sub h e = ap (λ n. take n marks) (count_before-IsUnmarked sub marks (unmarked_from_get indexes marks sub h e)) ∙ take-length marks

pub is_some-mark_at : {M : Type 0} (indexes : BTreeMap ℕ ℕ) (marks : List (ℕ × M)) (sub : ℕ) → HasIndexes indexes marks → is_some (get nat_cmp indexes sub) ≡ is_some (mark_at sub marks)
is_some-mark_at {M} indexes marks sub h = by_index (get nat_cmp indexes sub) refl
  where
    by_index : (o : Option ℕ) → get nat_cmp indexes sub ≡ o → is_some (get nat_cmp indexes sub) ≡ is_some (mark_at sub marks)
    by_index None e = ap is_some e ∙ sym (ap is_some (mark_at-none indexes marks sub h e))
    by_index (Some index) e = ap is_some e ∙ sym (is_some-mark_at-IsFirst sub index marks (first_from_get indexes marks sub index h e))

pub with_mark-marked : {M : Type 0} (sub : ℕ) (mark : M) (marks : List (ℕ × M)) → is_some (mark_at sub marks) ≡ true → with_mark sub mark marks ≡ marks
with_mark-marked sub mark marks e = rw e

pub with_mark-unmarked : {M : Type 0} (sub : ℕ) (mark : M) (marks : List (ℕ × M)) → is_some (mark_at sub marks) ≡ false → with_mark sub mark marks ≡ marks ++ (sub, mark) ∷ []
with_mark-unmarked sub mark marks e = rw e

pub index_within : {M : Type 0} (indexes : BTreeMap ℕ ℕ) (marks : List (ℕ × M)) (sub index : ℕ) → HasIndexes indexes marks → get nat_cmp indexes sub ≡ Some index → index < length marks
index_within {M} indexes marks sub index h e =
    omega (arith, slice_get_within (subs_of marks) index sub (h.named sub index e), length-map marks (λ (m : ℕ × M). m.0))

-- ---- a mark more, a mark less

subs_of-push : {M : Type 0} (marks : List (ℕ × M)) (m : ℕ × M) → subs_of (marks ++ m ∷ []) ≡ subs_of marks ++ m.0 ∷ []
subs_of-push {M} marks m = map-append (λ (n : ℕ × M). n.0) marks (m ∷ [])

length-subs_of : {M : Type 0} (marks : List (ℕ × M)) → length (subs_of marks) ≡ length marks
length-subs_of {M} marks = length-map marks (λ (n : ℕ × M). n.0)

-- a look-up after a change at another key, and at this one
get_apart : (old new : BTreeMap ℕ ℕ) (sub : ℕ) (w : Option ℕ) (other : ℕ) → UpdatesBy nat_cmp (nat_cmp sub) old new w → (sub ≡ other → ⊥) → get nat_cmp new other ≡ get nat_cmp old other
get_apart old new sub w other step ne = step.2 other (is_eq-nat_cmp_apart sub other ne)

pub HasIndexes-push : {M : Type 0} (old new : BTreeMap ℕ ℕ) (marks : List (ℕ × M)) (sub : ℕ) (mark : M) → HasIndexes old marks → get nat_cmp old sub ≡ None → Updates nat_cmp old new sub (Some (length marks)) → HasIndexes new (marks ++ (sub, mark) ∷ [])
HasIndexes-push {M} old new marks sub mark h absent step = record { named = named; found = found }
  where
    subs : subs_of (marks ++ (sub, mark) ∷ []) ≡ subs_of marks ++ sub ∷ []
    subs = subs_of-push marks (sub, mark)

    count : length (subs_of marks) ≡ length marks
    count = length-subs_of marks

    named : (other index : ℕ) → get nat_cmp new other ≡ Some index → slice_get (subs_of (marks ++ (sub, mark) ∷ [])) index ≡ Some other
    named other index e = rw subs (⊎_elim
        (λ (same : sub ≡ other).
        let here : get nat_cmp new sub ≡ Some (length marks) = step.1 in
        let at : Some (length marks) ≡ Some index = sym here ∙ ap (get nat_cmp new) same ∙ e in
        let equal : length (subs_of marks) ≡ index = count ∙ same_Some (length marks) index at in
        ap (slice_get (subs_of marks ++ sub ∷ [])) (sym equal) ∙ slice_get-last (subs_of marks) sub ∙ ap Some same)
        (λ ne.
        let at = h.named other index (sym (get_apart old new sub _ other step ne) ∙ e) in
        slice_get-front (subs_of marks) (sub ∷ []) index (slice_get_within (subs_of marks) index other at) ∙ at)
        (cases_eq sub other))

    found : (other index : ℕ) → slice_get (subs_of (marks ++ (sub, mark) ∷ [])) index ≡ Some other → get nat_cmp new other ≡ Some index
    found other index e = ⊎_elim
        (λ (last : (index ≡ length (subs_of marks)) × (sub ≡ other)).
        let here : get nat_cmp new sub ≡ Some (length marks) = step.1 in
        ap (get nat_cmp new) (sym last.1) ∙ here ∙ ap Some (sym (last.0 ∙ count)))
        (λ at.
        let was = h.found other index at in
        let ne : sub ≡ other → ⊥ = λ same. let none = sym was ∙ ap (get nat_cmp old) (sym same) ∙ absent in cc in
        get_apart old new sub _ other step ne ∙ was)
        (last_or_front (subs_of marks) sub other index (rw subs at e))

pub HasIndexes-pop : {M : Type 0} (old new : BTreeMap ℕ ℕ) (marks : List (ℕ × M)) (sub : ℕ) (mark : M) → HasIndexes old (marks ++ (sub, mark) ∷ []) → Updates nat_cmp old new sub None → HasIndexes new marks
HasIndexes-pop {M} old new marks sub mark h step = record { named = named; found = found }
  where
    subs : subs_of (marks ++ (sub, mark) ∷ []) ≡ subs_of marks ++ sub ∷ []
    subs = subs_of-push marks (sub, mark)

    count : length (subs_of marks) ≡ length marks
    count = length-subs_of marks

    last : get nat_cmp old sub ≡ Some (length (subs_of marks))
    last = h.found sub (length (subs_of marks)) (rw subs (slice_get-last (subs_of marks) sub))

    named : (other index : ℕ) → get nat_cmp new other ≡ Some index → slice_get (subs_of marks) index ≡ Some other
    named other index e = ⊎_elim
        (λ (same : sub ≡ other). let gone : get nat_cmp new sub ≡ None = step.1 in let none = sym gone ∙ ap (get nat_cmp new) same ∙ e in cc)
        (λ ne.
        let was = h.named other index (sym (get_apart old new sub _ other step ne) ∙ e) in
        ⊎_elim
        (λ (at : (index ≡ length (subs_of marks)) × (sub ≡ other)). absurd (ne at.1))
        (λ at. at)
        (last_or_front (subs_of marks) sub other index (rw subs at was)))
        (cases_eq sub other)

    found : (other index : ℕ) → slice_get (subs_of marks) index ≡ Some other → get nat_cmp new other ≡ Some index
    found other index e =
        let lt = slice_get_within (subs_of marks) index other e in
        let was = h.found other index (rw subs (slice_get-front (subs_of marks) (sub ∷ []) index lt ∙ e)) in
        let ne : sub ≡ other → ⊥ = λ same. let at : Some index ≡ Some (length (subs_of marks)) = sym was ∙ ap (get nat_cmp old) (sym same) ∙ last in let equal = same_Some index (length (subs_of marks)) at in omega arith in
        get_apart old new sub _ other step ne ∙ was

pub take-take : {A : Type 0} (m n : ℕ) (xs : List A) → m ≤ n → take m (take n xs) ≡ take m xs
take-take zero n xs le = grind (arith, common_steps)
take-take (suc m) zero xs le = absurd (omega arith)
take-take (suc m) (suc n) [] le = refl
take-take (suc m) (suc n) (x ∷ xs) le = ap (λ ys. x ∷ ys) (take-take m n xs (omega arith))

-- without its last, a beginning of a list is a beginning of it
pub beginning-pop : {A : Type 0} (whole front : List A) (last : A) (n : ℕ) → take n whole ≡ front ++ last ∷ [] → n ≡ length front + 1 → front ≡ take (length front) whole
beginning-pop whole front last n e count =
    sym (take-append_seam front (last ∷ [])) ∙ ap (take (length front)) (sym e) ∙ take-take (length front) n whole (omega arith)
