-- Indexes that were copied, and a table over them.
use Rattle.std.specs.Prelude.{◌≡◌, ℕ, suc, ◌<◌, List, [], ◌∷◌, ◌++◌, length, map, Option, Some, None, refl, slice_index_or, IsSome}
use Rattle.std.proofs.Common.{zero, sym, ◌∙◌, ap, subst, arith}
use Rattle.std.specs.List.{AllZip}
use Rattle.std.specs.Map.{lookup, keys_of}
use Rattle.std.specs.FinMap as finite
use Rattle.std.specs.Ordering.{eq_by_cmp}
use Rattle.model.specs.declared.key.Key.{Key}
use Rattle.model.specs.Key.{key_cmp}
use Rattle.rows.specs.Kept.{Kept}
use Rattle.indexes.specs.declared.unique.Unique.{Unique}
use Rattle.indexes.specs.Unique as step
use Rattle.indexes.specs.Unique.{plain, number_in, EachStep}
use Rattle.indexes.specs.Table.{Spot, TableContent}
use Rattle.indexes.specs.Indexed.{IsIndexed, columns_of, entry_spots, room_of}
use Rattle.indexes.proofs.Tabling.{indexed_kept}

-- a list of clones is the list, where each clone is what it was made of
pub clones_are : {X : Type 0} (R : X → X → Type 0) → ((x y : X) → R x y → y ≡ x) → (xs ys : List X) → AllZip R xs ys → ys ≡ xs
clones_are R same [] [] all = refl
clones_are R same [] (y ∷ ys) all = absurd all
clones_are R same (x ∷ xs) [] all = absurd all
clones_are R same (x ∷ xs) (y ∷ ys) all = ap (λ z. z ∷ ys) (same x y all.0) ∙ ap (λ zs. x ∷ zs) (clones_are R same xs ys all.1)

-- an entry is its clone, if values and number are
pub entry_is : (C : Key → Key → Type 0) (D : Option ℕ → Option ℕ → Type 0) → ((x y : Key) → C x y → y ≡ x) → ((m n : Option ℕ) → D m n → n ≡ m)
    → (p q : Key × Option ℕ) → C p.0 q.0 × D p.1 q.1 → q ≡ p
entry_is C D keys numbers p q is = ap (λ k. (k, q.1)) (keys p.0 q.0 is.0) ∙ ap (λ n. (p.0, n)) (numbers p.1 q.1 is.1)

-- a number or none is its clone, if each number is
pub number_is : (D : Option ℕ → Option ℕ → Type 0) → ((n : ℕ) → ¬ D None (Some n)) → ((m : ℕ) → ¬ D (Some m) None) → ((m n : ℕ) → D (Some m) (Some n) → n ≡ m)
    → (m n : Option ℕ) → D m n → n ≡ m
number_is D came went same None None is = refl
number_is D came went same None (Some n) is = absurd (came n is)
number_is D came went same (Some m) None is = absurd (went m is)
number_is D came went same (Some m) (Some n) is = ap Some (same m n is)

first_plain : (u v : Unique) (us vs : List Unique) → map plain (v ∷ vs) ≡ map plain (u ∷ us) → plain v ≡ plain u
first_plain u v us vs e = cc

rest_plain : (u v : Unique) (us vs : List Unique) → map plain (v ∷ vs) ≡ map plain (u ∷ us) → map plain vs ≡ map plain us
rest_plain u v us vs e = cc

copied_length : (us vs : List Unique) → map plain vs ≡ map plain us → length vs ≡ length us
copied_length [] [] e = refl
copied_length [] (v ∷ vs) e = absurd cc
copied_length (u ∷ us) [] e = absurd cc
copied_length (u ∷ us) (v ∷ vs) e = ap suc (copied_length us vs (rest_plain u v us vs e))

copied_at : (us vs : List Unique) → map plain vs ≡ map plain us → (k : ℕ) (d : Unique) → k < length us → plain (slice_index_or vs k d) ≡ plain (slice_index_or us k d)
copied_at [] vs e k d l = absurd (omega arith)
copied_at (u ∷ us) [] e k d l = absurd cc
copied_at (u ∷ us) (v ∷ vs) e zero d l = first_plain u v us vs e
copied_at (u ∷ us) (v ∷ vs) e (suc k) d l = copied_at us vs (rest_plain u v us vs e) k d (omega arith)

copied_steps : (us vs : List Unique) → map plain vs ≡ map plain us → EachStep step.KeepsSlots us vs
copied_steps us vs e = record {
  long = copied_length us vs e;
  each = λ k d l.
      let same = copied_at us vs e k d l in
      let entries : (slice_index_or vs k d).entries.entries ≡ (slice_index_or us k d).entries.entries = ap (λ (p : List ℕ × List (Key × Option ℕ)). p.1) same in
      record {
        columns = ap (λ (p : List ℕ × List (Key × Option ℕ)). p.0) same;
        entries = record {
          numbers = λ values. ap (λ es. number_in (lookup (eq_by_cmp key_cmp values) es)) entries;
          entries = λ values some. subst (λ (es : List (Key × Option ℕ)). IsSome (lookup (eq_by_cmp key_cmp values) es)) (sym entries) some;
        };
      };
}

pub indexed_copied : (primary : List ℕ) (kept : Kept) (us vs : List Unique) → IsIndexed primary kept us → map plain vs ≡ map plain us → IsIndexed primary kept vs
indexed_copied primary kept us vs was e = indexed_kept primary kept kept us vs was refl (λ key number at. at) was.numbered (copied_steps us vs e)

columns_copied : (us vs : List Unique) → map plain vs ≡ map plain us → columns_of vs ≡ columns_of us
columns_copied [] [] e = refl
columns_copied [] (v ∷ vs) e = absurd cc
columns_copied (u ∷ us) [] e = absurd cc
columns_copied (u ∷ us) (v ∷ vs) e =
    let first : v.columns ≡ u.columns = ap (λ (p : List ℕ × List (Key × Option ℕ)). p.0) (first_plain u v us vs e) in
    ap (λ cs. cs ∷ columns_of vs) first ∙ ap (λ css. u.columns ∷ css) (columns_copied us vs (rest_plain u v us vs e))

spots_copied : (number : ℕ) (us vs : List Unique) → map plain vs ≡ map plain us → entry_spots number vs ≡ entry_spots number us
spots_copied number [] [] e = refl
spots_copied number [] (v ∷ vs) e = absurd cc
spots_copied number (u ∷ us) [] e = absurd cc
spots_copied number (u ∷ us) (v ∷ vs) e =
    let first : v.entries.entries ≡ u.entries.entries = ap (λ (p : List ℕ × List (Key × Option ℕ)). p.1) (first_plain u v us vs e) in
    let spots : List (Key × Option ℕ) → List Spot = λ es. map (λ values. (number, values)) (keys_of es) in
    ap (λ es. spots es ++ entry_spots (suc number) vs) first ∙ ap (λ ss. spots u.entries.entries ++ ss) (spots_copied (suc number) us vs (rest_plain u v us vs e))

abbrev pub seen_as : List ℕ → Kept → List Unique → TableContent
seen_as primary kept us = record { keys = record { primary = primary; uniques = columns_of us }; rows = kept.rows; room = room_of kept us }

-- a table over copies is seen as the same
pub seen_copied : (primary other : List ℕ) (kept same : Kept) (us vs : List Unique) → other ≡ primary → same ≡ kept → map plain vs ≡ map plain us → seen_as other same vs ≡ seen_as primary kept us
seen_copied primary other kept same us vs p k e =
    ap (λ (cs : List ℕ). seen_as cs same vs) p ∙ ap (λ (m : Kept). seen_as primary m vs) k ∙ λ i. record {
      keys = record { primary = primary; uniques = columns_copied us vs e i };
      rows = kept.rows;
      room = map (λ key. (0, key)) (finite.keys kept.slots) ++ spots_copied 1 us vs e i;
    }
