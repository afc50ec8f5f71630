-- Which spots a table's room has, and which a row fills.
use Rattle.std.specs.Prelude.{◌≡◌, ℕ, suc, ◌+◌, ◌<◌, List, [], ◌∷◌, length, map, Option, Some, None, refl, ◌⊎◌, slice_get, slice_index_or, IsSome, is_some}
use Rattle.std.proofs.Common.{zero, sym, ◌∙◌, ap, subst, inl, inr, arith}
use Rattle.std.specs.HashMap as hash
use Rattle.std.specs.List.{Contains}
use Rattle.std.specs.FinMap as finite
use Rattle.model.specs.declared.key.Key.{Key}
use Rattle.model.specs.declared.row.Row.{Row}
use Rattle.model.specs.Rows.{TableKeys, values_in}
use Rattle.rows.specs.Kept.{Kept}
use Rattle.indexes.specs.declared.unique.Unique.{Unique}
use Rattle.indexes.specs.Unique.{entry_at}
use Rattle.indexes.specs.Table.{Spot, spot, unique_spots, spots_of}
use Rattle.indexes.specs.Indexed.{entry_spots, room_of, columns_of}
use Rattle.indexes.proofs.Elements.{Elem, contains_elem, elem_contains, elem_left, elem_right, elem_either, elem_map, elem_of_map, found_key, key_found, elem_keys, get_elem, some_of}

-- ---- of a row

elem_spot : (number : ℕ) (o : Option Key) (values : Key) → o ≡ Some values → Elem (spot number o) (number, values)
elem_spot number None values e = absurd cc
elem_spot number (Some found) values e = inl (let same : found ≡ values = cc in ap (λ (v : Key). (number, v)) same)

spot_elem : (number : ℕ) (o : Option Key) (s : Spot) → Elem (spot number o) s → (values : Key) × (o ≡ Some values) × (s ≡ (number, values))
spot_elem number None s h = absurd h
spot_elem number (Some values) s (inl e) = (values, refl, sym e)
spot_elem number (Some values) s (inr h) = absurd h

elem_unique_spots : (row : Row) (n : ℕ) (uniques : List (List ℕ)) (i m : ℕ) (columns : List ℕ) (values : Key)
    → slice_get uniques i ≡ Some columns → values_in columns row ≡ Some values → m ≡ n + i → Elem (unique_spots row n uniques) (m, values)
elem_unique_spots row n [] i m columns values at has is = absurd cc
elem_unique_spots row n (c ∷ cs) zero m columns values at has is =
    let same : c ≡ columns = cc in
    let number_is : n ≡ m = omega arith in
    elem_left (spot n (values_in c row)) _ (m, values)
    (subst (λ (k : ℕ). Elem (spot n (values_in c row)) (k, values)) number_is (elem_spot n (values_in c row) values (ap (λ (x : List ℕ). values_in x row) same ∙ has)))
elem_unique_spots row n (c ∷ cs) (suc i) m columns values at has is =
    elem_right (spot n (values_in c row)) _ (m, values) (elem_unique_spots row (suc n) cs i m columns values at has (omega arith))

-- the unique key that a spot is of, and the row's values there
pub record OfUnique (row : Row) (n : ℕ) (uniques : List (List ℕ)) (s : Spot) : Type 0 where
  pub i : ℕ
  pub columns : List ℕ
  pub at : slice_get uniques i ≡ Some columns
  pub has : values_in columns row ≡ Some s.1
  pub number : s.0 ≡ n + i

unique_spots_elem : (row : Row) (n : ℕ) (uniques : List (List ℕ)) (s : Spot) → Elem (unique_spots row n uniques) s → OfUnique row n uniques s
unique_spots_elem row n [] s h = absurd h
unique_spots_elem row n (c ∷ cs) s h =
    elim (elem_either (spot n (values_in c row)) _ s h) [
      | inl here ↦
          let p = spot_elem n (values_in c row) s here in
          record { i = 0; columns = c; at = refl; has = p.1 ∙ ap Some (sym (ap (λ (t : Spot). t.1) p.2)); number = ap (λ (t : Spot). t.0) p.2 ∙ omega arith }
      | inr there ↦
          let r = unique_spots_elem row (suc n) cs s there in
          record { i = suc r.i; columns = r.columns; at = r.at; has = r.has; number = r.number ∙ omega arith }
    ]

-- the row's key is one of its spots
pub key_spot : (keys : TableKeys) (row : Row) (key : Key) → values_in keys.primary row ≡ Some key → Contains (spots_of keys row) (0, key)
key_spot keys row key has = contains_elem _ _ (elem_left (spot 0 (values_in keys.primary row)) _ (0, key) (elem_spot 0 _ key has))

pub unique_values_spot : (keys : TableKeys) (row : Row) (i : ℕ) (columns : List ℕ) (values : Key)
    → slice_get keys.uniques i ≡ Some columns → values_in columns row ≡ Some values → Contains (unique_spots row 1 keys.uniques) (suc i, values)
unique_values_spot keys row i columns values at has = contains_elem _ _ (elem_unique_spots row 1 keys.uniques i (suc i) columns values at has (omega arith))

-- and so are its values in a unique key
pub unique_spot : (keys : TableKeys) (row : Row) (i : ℕ) (columns : List ℕ) (values : Key)
    → slice_get keys.uniques i ≡ Some columns → values_in columns row ≡ Some values → Contains (spots_of keys row) (suc i, values)
unique_spot keys row i columns values at has =
    contains_elem _ _ (elem_right (spot 0 (values_in keys.primary row)) _ (suc i, values) (elem_unique_spots row 1 keys.uniques i (suc i) columns values at has (omega arith)))

-- and there are no others
pub spot_of : (keys : TableKeys) (row : Row) (s : Spot) → Contains (spots_of keys row) s → ((key : Key) × (values_in keys.primary row ≡ Some key) × (s ≡ (0, key))) ⊎ OfUnique row 1 keys.uniques s
spot_of keys row s c =
    elim (elem_either (spot 0 (values_in keys.primary row)) _ s (elem_contains _ _ c)) [
      | inl here ↦ inl (spot_elem 0 (values_in keys.primary row) s here)
      | inr there ↦ inr (unique_spots_elem row 1 keys.uniques s there)
    ]

-- a spot of the row's unique values
pub unique_spot_of : (keys : TableKeys) (row : Row) (s : Spot) → Contains (unique_spots row 1 keys.uniques) s → OfUnique row 1 keys.uniques s
unique_spot_of keys row s c = unique_spots_elem row 1 keys.uniques s (elem_contains _ _ c)

-- ---- of a table

elem_entry_spots : (n : ℕ) (us : List Unique) (i m : ℕ) (d : Unique) (values : Key) → i < length us → IsSome (entry_at (slice_index_or us i d).entries values) → m ≡ n + i → Elem (entry_spots n us) (m, values)
elem_entry_spots n [] i m d values l some is = absurd (omega arith)
elem_entry_spots n (u ∷ us) zero m d values l some is =
    let entry = some_of (entry_at u.entries values) some in
    let number_is : n ≡ m = omega arith in
    elem_left (map (λ v. (n, v)) (hash.keys u.entries)) _ (m, values)
    (subst (λ (k : ℕ). Elem {X = Spot} (map (λ v. (n, v)) (hash.keys u.entries)) (k, values)) number_is
    (elem_map (λ (v : Key). (n, v)) (hash.keys u.entries) values (found_key u.entries.entries values entry.0 entry.1)))
elem_entry_spots n (u ∷ us) (suc i) m d values l some is =
    elem_right (map (λ v. (n, v)) (hash.keys u.entries)) _ (m, values) (elem_entry_spots (suc n) us i m d values (omega arith) some (omega arith))

-- the index that has an entry for a spot
pub record HasEntryAt (n : ℕ) (us : List Unique) (s : Spot) : Type 0 where
  pub i : ℕ
  pub number : s.0 ≡ n + i
  pub within : i < length us
  pub entry : (d : Unique) → IsSome (entry_at (slice_index_or us i d).entries s.1)

entry_spots_elem : (n : ℕ) (us : List Unique) (s : Spot) → Elem (entry_spots n us) s → HasEntryAt n us s
entry_spots_elem n [] s h = absurd h
entry_spots_elem n (u ∷ us) s h =
    elim (elem_either (map (λ v. (n, v)) (hash.keys u.entries)) _ s h) [
      | inl here ↦
          let p = elem_of_map (λ (v : Key). (n, v)) (hash.keys u.entries) s here in
          let e = key_found u.entries.entries p.0 p.1 in
          record {
            i = 0;
            number = sym (ap (λ (t : Spot). t.0) p.2) ∙ omega arith;
            within = omega arith;
            entry = λ d. subst (λ (v : Key). IsSome (entry_at u.entries v)) (ap (λ (t : Spot). t.1) p.2) (ap is_some e.1);
          }
      | inr there ↦
          let r = entry_spots_elem (suc n) us s there in
          record { i = suc r.i; number = r.number ∙ omega arith; within = let l = r.within in omega arith; entry = r.entry }
    ]

pub key_in_room : (kept : Kept) (us : List Unique) (key : Key) (number : ℕ) → finite.get kept.slots key ≡ Some number → Contains (room_of kept us) (0, key)
key_in_room kept us key number at =
    contains_elem _ _ (elem_left (map (λ k. (0, k)) (finite.keys kept.slots)) _ (0, key) (elem_map (λ (k : Key). (0, k)) (finite.keys kept.slots) key (elem_keys kept.slots key number at)))

pub entry_in_room : (kept : Kept) (us : List Unique) (i : ℕ) (d : Unique) (values : Key) → i < length us → IsSome (entry_at (slice_index_or us i d).entries values) → Contains (room_of kept us) (suc i, values)
entry_in_room kept us i d values l some =
    contains_elem _ _ (elem_right (map (λ k. (0, k)) (finite.keys kept.slots)) _ (suc i, values) (elem_entry_spots 1 us i (suc i) d values l some (omega arith)))

-- a spot of the room is a key with a slot, or values with an entry
pub in_room : (kept : Kept) (us : List Unique) (s : Spot) → Contains (room_of kept us) s
    → ((key : Key) × (s ≡ (0, key)) × (number : ℕ) × (finite.get kept.slots key ≡ Some number)) ⊎ HasEntryAt 1 us s
in_room kept us s c =
    elim (elem_either (map (λ k. (0, k)) (finite.keys kept.slots)) _ s (elem_contains _ _ c)) [
      | inl here ↦
          let p = elem_of_map (λ (k : Key). (0, k)) (finite.keys kept.slots) s here in
          let g = get_elem kept.slots p.0 p.1 in
          inl (p.0, sym p.2, g.0, g.1)
      | inr there ↦ inr (entry_spots_elem 1 us s there)
    ]

-- ---- columns

pub columns_at : (us : List Unique) (i : ℕ) (d : Unique) → i < length us → slice_get (columns_of us) i ≡ Some (slice_index_or us i d).columns
columns_at [] i d l = absurd (omega arith)
columns_at (u ∷ us) zero d l = refl
columns_at (u ∷ us) (suc i) d l = columns_at us i d (omega arith)

pub column_within : (us : List Unique) (i : ℕ) (columns : List ℕ) → slice_get (columns_of us) i ≡ Some columns → (i < length us) × (d : Unique) × ((slice_index_or us i d).columns ≡ columns)
column_within [] i columns e = absurd cc
column_within (u ∷ us) zero columns e = (omega arith, u, cc)
column_within (u ∷ us) (suc i) columns e = let r = column_within us i columns e in (let l = r.0 in omega arith, r.1, r.2)
