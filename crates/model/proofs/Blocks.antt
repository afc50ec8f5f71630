-- The block of columns: cuts one behind another, and what is read of a block that was put together.
use Rattle.std.specs.Prelude.{◌≡◌, ℕ, zero, suc, ◌+◌, ◌-◌, ◌*◌, ◌≤◌, ◌<◌, Some, List, [], ◌∷◌, ◌++◌, map, length, take, drop, slice_get, slice_index, IsUtf8, refl}
use Rattle.std.specs.Int.{w32, w64, byte_worth, sum_through, from_le_bytes, to_le_bytes}
use Rattle.std.proofs.Common.{arith, sym, ◌∙◌, ap, subst, length-append, length-drop, append_assoc}
use Rattle.std.proofs.Math.ListN.{get_or-append}
use Rattle.std.proofs.Math.Seq.{drop-drop, drop-append_seam, take-append_seam, take-length}
use Rattle.std.proofs.lemmas.List.{drop-append-le, length-map}
use Rattle.std.proofs.lemmas.Nat.{from_le_bytes-to_le_bytes_4}
use Rattle.model.specs.declared.packed.Cut.{Cut}
use Rattle.model.specs.Packed.{column_in, IsCut, AreCuts, cut_as, cut_of, cuts_of, HasCuts, columns_in, cuts_at, texts_in, cuts_in, patch_in, IsPacked}

same_word : (f g : ℕ → ℕ) (k : ℕ) → ((i : ℕ) → i ≤ k → f i ≡ g i) → sum_through (λ i. byte_worth i (f i)) k ≡ sum_through (λ i. byte_worth i (g i)) k
same_word f g zero same = ap (byte_worth 0) (same 0 (omega arith))
same_word f g (suc k) same =
    let low = same_word f g k (λ i small. same i (omega arith)) in
    let high = ap (byte_worth (suc k)) (same (suc k) (omega arith)) in
    cc

-- a cut is the same, whatever comes behind it
cut_first : (xs ys : List ℕ) → 9 ≤ length xs → cut_of (xs ++ ys) ≡ cut_of xs
cut_first xs ys long =
    let at : (i : ℕ) → i ≤ 8 → slice_index (xs ++ ys) i ≡ slice_index xs i = λ i small. get_or-append xs ys 0 i (omega arith) in
    let word : from_le_bytes w64 (xs ++ ys) ≡ from_le_bytes w64 xs = same_word (slice_index (xs ++ ys)) (slice_index xs) 7 (λ i small. at i (omega arith)) in
    ap (λ (w : ℕ). cut_as w (slice_index (xs ++ ys) 8)) word ∙ ap (cut_as (from_le_bytes w64 xs)) (at 8 (omega arith))

-- and so are so many
cuts_first : (n : ℕ) (xs ys : List ℕ) → 9 * n ≤ length xs → cuts_of n (xs ++ ys) ≡ cuts_of n xs
cuts_first zero xs ys long = refl
cuts_first (suc n) xs ys long =
    let rest = ap (cuts_of n) (drop-append-le 9 xs ys (omega arith)) ∙ cuts_first n (drop 9 xs) ys (omega (arith, length-drop 9 xs)) in
    let first = cut_first xs ys (omega arith) in
    cc

-- the cuts with one more
pub cut_more : (n : ℕ) (xs nine : List ℕ) → length xs ≡ 9 * n → cuts_of (suc n) (xs ++ nine) ≡ cuts_of n xs ++ cut_of nine ∷ []
cut_more zero [] nine long = refl
cut_more zero (x ∷ xs) nine long = absurd (omega arith)
cut_more (suc n) xs nine long =
    let rest = ap (cuts_of (suc n)) (drop-append-le 9 xs nine (omega arith)) ∙ cut_more n (drop 9 xs) nine (omega (arith, length-drop 9 xs)) in
    let first = cut_first xs nine (omega arith) in
    ap (λ cut. cut ∷ cuts_of (suc n) (drop 9 (xs ++ nine))) first ∙ ap (λ cuts. cut_of xs ∷ cuts) rest

pub count_cuts : (n : ℕ) (bytes : List ℕ) → length (cuts_of n bytes) ≡ n
count_cuts zero bytes = refl
count_cuts (suc n) bytes = ap suc (count_cuts n (drop 9 bytes))

later : (i : ℕ) (bytes : List ℕ) → drop (9 * i) (drop 9 bytes) ≡ drop (9 * suc i) bytes
later i bytes = drop-drop (9 * i) 9 bytes ∙ ap (λ (n : ℕ). drop n bytes) (omega arith)

-- each of so many cuts is one of the texts
pub cut_is : (texts : List ℕ) (n i : ℕ) (bytes : List ℕ) → i < n → AreCuts texts (cuts_of n bytes) → IsCut texts (cut_of (drop (9 * i) bytes))
cut_is texts zero i bytes within all = absurd (omega arith)
cut_is texts (suc n) zero bytes within all = all.0
cut_is texts (suc n) (suc i) bytes within all =
    subst (λ (rest : List ℕ). IsCut texts (cut_of rest)) (later i bytes) (cut_is texts n i (drop 9 bytes) (omega arith) all.1)

-- what it does is done to its column
pub cut_column : (texts : List ℕ) (n i : ℕ) (bytes : List ℕ) → i < n → slice_get (map (column_in texts) (cuts_of n bytes)) i ≡ Some (column_in texts (cut_of (drop (9 * i) bytes)))
cut_column texts zero i bytes within = absurd (omega arith)
cut_column texts (suc n) zero bytes within = refl
cut_column texts (suc n) (suc i) bytes within =
    cut_column texts n i (drop 9 bytes) (omega arith) ∙ ap (λ (rest : List ℕ). Some (column_in texts (cut_of rest))) (later i bytes)

pub count_columns : (block : List ℕ) → length (patch_in block) ≡ columns_in block
count_columns block = length-map (cuts_in block) (column_in (texts_in block)) ∙ count_cuts (columns_in block) (drop (cuts_at block) block)

-- what lies behind a place of the block, as it is cut out of it
pub from_place : (block : List ℕ) (i k : ℕ) → take (length block - (i + 9 * k)) (drop (i + 9 * k) block) ≡ drop (9 * k) (drop i block)
from_place block i k =
    ap (λ (n : ℕ). take n (drop (i + 9 * k) block)) (sym (length-drop (i + 9 * k) block)) ∙ take-length (drop (i + 9 * k) block)
    ∙ sym (drop-drop (9 * k) i block)

-- A block of texts, so many cuts and their number is one of columns.
module _ (texts cuts : List ℕ) (n : ℕ) (has : HasCuts texts n cuts) where
  abbrev pub whole : List ℕ
  whole = (texts ++ cuts) ++ to_le_bytes w32 n

  four : length (to_le_bytes w32 n) ≡ 4
  four = refl

  long : length whole ≡ length texts + 9 * n + 4
  long = omega (arith, has.1, four, length-append (texts ++ cuts) (to_le_bytes w32 n), length-append texts cuts)

  count : columns_in whole ≡ n
  count =
      let front : length whole - 4 ≡ length (texts ++ cuts) = omega (arith, long, has.1, length-append texts cuts) in
      ap (λ (i : ℕ). from_le_bytes w32 (drop i whole)) front ∙ ap (from_le_bytes w32) (drop-append_seam (texts ++ cuts) (to_le_bytes w32 n)) ∙ from_le_bytes-to_le_bytes_4 n has.0

  start : cuts_at whole ≡ length texts
  start = omega (arith, long, count)

  split : whole ≡ texts ++ (cuts ++ to_le_bytes w32 n)
  split = append_assoc texts cuts (to_le_bytes w32 n)

  same_texts : texts_in whole ≡ texts
  same_texts = ap (λ (i : ℕ). take i whole) start ∙ ap (take (length texts)) split ∙ take-append_seam texts (cuts ++ to_le_bytes w32 n)

  same_cuts : cuts_in whole ≡ cuts_of n cuts
  same_cuts =
      let behind : drop (cuts_at whole) whole ≡ cuts ++ to_le_bytes w32 n = ap (λ (i : ℕ). drop i whole) start ∙ ap (drop (length texts)) split ∙ drop-append_seam texts (cuts ++ to_le_bytes w32 n) in
      ap (λ (k : ℕ). cuts_of k (drop (cuts_at whole) whole)) count ∙ ap (cuts_of n) behind ∙ cuts_first n cuts (to_le_bytes w32 n) (omega (arith, has.1))

  pub packed_columns : patch_in whole ≡ map (column_in texts) (cuts_of n cuts)
  packed_columns = ap (λ (t : List ℕ). map (column_in t) (cuts_in whole)) same_texts ∙ ap (map (column_in texts)) same_cuts

  pub is_packed : IsUtf8 texts → IsPacked whole
  is_packed utf8 = (
    omega (arith, long, count),
    subst (λ (t : List ℕ). IsUtf8 t) (sym same_texts) utf8,
    subst (λ (t : List ℕ). AreCuts t (cuts_in whole)) (sym same_texts) (subst (λ (cs : List Cut). AreCuts texts cs) (sym same_cuts) has.2),
  )
