-- Cuts of texts, when one more text comes behind the others, or one more cut.
use Rattle.std.specs.Prelude.{◌≡◌, ℕ, ◌+◌, ◌-◌, ◌≤◌, ◌<◌, List, [], ◌∷◌, ◌++◌, map, length, slice_range, IsUtf8, IsCharBoundary, refl, ◌⊎◌}
use Rattle.std.proofs.Common.{arith, sym, ◌∙◌, ap, subst, inl, inr, take, drop, length-append, length-drop}
use Rattle.std.proofs.Math.ListN.{get_or-append}
use Rattle.std.proofs.Math.Seq.{drop-append_seam, take-length}
use Rattle.std.proofs.lemmas.List.{drop-append-le, take-append-le}
use Rattle.std.proofs.lemmas.Str.{IsCharBoundary-at_seam, IsCharBoundary-end}
use Rattle.model.specs.declared.value.Value.TheVariants.{Text}
use Rattle.model.specs.declared.patch.ColumnPatch.TheVariants.{Value}
use Rattle.model.specs.declared.packed.Cut.{Cut}
use Rattle.model.specs.declared.packed.Cut.TheVariants.{Null, Int, Text as TextCut, Bool, Kept}
use Rattle.model.specs.Packed.{column_in, IsCut, AreCuts, KeepsCuts, IsCutOf}

less_or_end : (i n : ℕ) → i ≤ n → (i < n) ⊎ (i ≡ n)
less_or_end i n le = grind arith

boundary_kept : (xs ys : List ℕ) (i : ℕ) → IsUtf8 ys → IsCharBoundary xs i → IsCharBoundary (xs ++ ys) i
boundary_kept xs ys i utf8 at = elim (less_or_end i (length xs) at.0) [
  | inl lt ↦
      let same = get_or-append xs ys 0 i lt in
      (omega (arith, at.0, length-append xs ys), λ _. subst (λ (b : ℕ). 128 ≤ b → 192 ≤ b) (sym same) (at.1 lt))
  | inr e ↦ subst (λ (n : ℕ). IsCharBoundary (xs ++ ys) n) (sym e) (IsCharBoundary-at_seam (xs ++ ys) xs ys refl utf8)
]

range_kept : (xs ys : List ℕ) (i j : ℕ) → i ≤ j → j ≤ length xs → slice_range (xs ++ ys) i j ≡ slice_range xs i j
range_kept xs ys i j le lt =
    let from : i ≤ length xs = omega arith in
    let upto : j - i ≤ length (drop i xs) = omega (arith, length-drop i xs) in
    ap (take (j - i)) (drop-append-le i xs ys from) ∙ take-append-le (j - i) (drop i xs) ys upto

-- what lay in the texts lies there when one more comes behind
pub cuts_kept : (xs ys : List ℕ) → IsUtf8 ys → KeepsCuts xs (xs ++ ys)
cuts_kept xs ys utf8 Null is = (tt, refl)
cuts_kept xs ys utf8 (Int n) is = (tt, refl)
cuts_kept xs ys utf8 (TextCut start end) is =
    ((is.0, boundary_kept xs ys start utf8 is.1, boundary_kept xs ys end utf8 is.2), ap (λ t. Value (Text t)) (range_kept xs ys start end is.0 is.2.0))
cuts_kept xs ys utf8 (Bool b) is = (tt, refl)
cuts_kept xs ys utf8 Kept is = (tt, refl)

-- the cut of a text that came behind the others
pub cut_behind : (xs ys : List ℕ) → IsUtf8 ys → IsCutOf (xs ++ ys) (Value (Text ys)) (TextCut (length xs) (length (xs ++ ys)))
cut_behind xs ys utf8 =
    let long : length (xs ++ ys) ≡ length xs + length ys = length-append xs ys in
    let size : length (xs ++ ys) - length xs ≡ length ys = omega arith in (
      (omega arith, IsCharBoundary-at_seam (xs ++ ys) xs ys refl utf8, IsCharBoundary-end (xs ++ ys)),
      ap (λ t. Value (Text t)) (ap (take (length (xs ++ ys) - length xs)) (drop-append_seam xs ys) ∙ ap (λ (n : ℕ). take n ys) size ∙ take-length ys),
    )

pub all_kept : (xs ys : List ℕ) (cuts : List Cut) → KeepsCuts xs ys → AreCuts xs cuts → AreCuts ys cuts
all_kept xs ys [] keeps all = tt
all_kept xs ys (cut ∷ cuts) keeps all = ((keeps cut all.0).0, all_kept xs ys cuts keeps all.1)

pub columns_kept : (xs ys : List ℕ) (cuts : List Cut) → KeepsCuts xs ys → AreCuts xs cuts → map (column_in ys) cuts ≡ map (column_in xs) cuts
columns_kept xs ys [] keeps all = refl
columns_kept xs ys (cut ∷ cuts) keeps all =
    let first = (keeps cut all.0).1 in
    let rest = columns_kept xs ys cuts keeps all.1 in
    cc

pub one_more : (xs : List ℕ) (cuts : List Cut) (cut : Cut) → AreCuts xs cuts → IsCut xs cut → AreCuts xs (cuts ++ cut ∷ [])
one_more xs [] cut all is = (is, tt)
one_more xs (first ∷ cuts) cut all is = (all.0, one_more xs cuts cut all.1 is)

-- a cut more has a column more
pub column_more : (xs : List ℕ) (cuts : List Cut) (cut : Cut) → map (column_in xs) (cuts ++ cut ∷ []) ≡ map (column_in xs) cuts ++ column_in xs cut ∷ []
column_more xs [] cut = refl
column_more xs (first ∷ cuts) cut = ap (λ columns. column_in xs first ∷ columns) (column_more xs cuts cut)
