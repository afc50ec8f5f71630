-- What keeps rows valid.
--     valid_fewer      some of valid rows
--     valid_insert      with a row at its own key, whose unique values no other row of its table has
--     own_key_of_valid, free_of_valid      what a row needs that is put back into rows that are valid with it
use Rattle.std.specs.Prelude.{refl, ◌≡◌, ℕ, Bool, true, false, cond, List, Option, Some, None, slice_get}
use Rattle.std.proofs.Common.{sym, ◌∙◌, ap, inl, inr}
use Rattle.std.specs.FinMap.{get, insert, remove}
use Rattle.model.specs.declared.row.Row.{Row}
use Rattle.model.specs.declared.key.Key.{Key}
use Rattle.model.specs.Rows.{Place, Rows, Schema, keys_at, values_in, key_of, are_taken, IsUnique, IsValid, is_place}
use Rattle.model.specs.Effect.{are_taken_unless_null, first_taken}
use Rattle.model.specs.EditLemmas.{place_cases, get_insert_same, get_insert_other, get_remove}
use Rattle.std.proofs.lemmas.Bool.{cases_Bool}
use Rattle.model.specs.TakenLemmas.{not_taken_row, row_of_taken, first_taken_none, first_taken_free}

pub not_none : {X : Type 0} (x : X) → ¬ (None ≡ Some x)
not_none x e = cc

-- each row of the one stands in the other
abbrev pub IsPart : Rows → Rows → Type 0
IsPart part rows = (p : Place) (row : Row) → get part p ≡ Some row → get rows p ≡ Some row

pub valid_fewer : (schema : Schema) (part rows : Rows) → IsPart part rows → IsValid schema rows → IsValid schema part
valid_fewer schema part rows stays valid = record {
  own_key = λ table key row at. valid.own_key table key row (stays (table, key) row at);
  unique = λ table i columns key other row duplicate values is_unique at again has same.
      valid.unique table i columns key other row duplicate values is_unique (stays (table, key) row at) (stays (table, other) duplicate again) has same;
}

left_as_was : (b : Bool) (row : Row) (was : Option Row) → cond b None was ≡ Some row → was ≡ Some row
left_as_was true row was e = cc
left_as_was false row was e = e

pub part_remove : (rows : Rows) (q : Place) → IsPart (remove rows q) rows
part_remove rows q p row at = left_as_was (is_place p q) row (get rows p) (sym (get_remove rows q p) ∙ at)

pub valid_remove : (schema : Schema) (rows : Rows) (q : Place) → IsValid schema rows → IsValid schema (remove rows q)
valid_remove schema rows q = valid_fewer schema (remove rows q) rows (part_remove rows q)

-- ---- with one more row

-- the key of a place
same_table_key : (table other : ℕ) (key duplicate : Key) → ◌≡◌ {A = Place} (table, key) (other, duplicate) → key ≡ duplicate
same_table_key table other key duplicate e = ap (λ (p : Place). p.1) e

same_table : (table other : ℕ) (key duplicate : Key) → ◌≡◌ {A = Place} (table, key) (other, duplicate) → table ≡ other
same_table table other key duplicate e = ap (λ (p : Place). p.0) e

module _ (schema : Schema) (rows : Rows) (table : ℕ) (key : Key) (row : Row) (valid : IsValid schema rows)
    (own : key_of schema table row ≡ Some key) (free : first_taken rows table row 1 (keys_at schema table).uniques ≡ None) where
  abbrev more : Rows
  more = insert rows (table, key) row

  own_key_insert : (t : ℕ) (k : Key) (r : Row) → get more (t, k) ≡ Some r → key_of schema t r ≡ Some k
  own_key_insert t k r at =
      elim (place_cases (t, k) (table, key)) [
        | inl is ↦
            let row_is : Some r ≡ Some row = sym at ∙ ap (get more) is ∙ get_insert_same rows (table, key) row in
            let row_same : r ≡ row = cc in
            let table_same : t ≡ table = same_table t table k key is in
            let key_same : k ≡ key = same_table_key t table k key is in
            ap (key_of schema t) row_same ∙ ap (λ (n : ℕ). key_of schema n row) table_same ∙ own ∙ ap Some (sym key_same)
        | inr other ↦ valid.own_key t k r (sym (get_insert_other rows (table, key) row (t, k) other) ∙ at)
      ]

  -- no row of these has the new row's values in a unique key of its table
  none_like_it : (i : ℕ) (columns : List ℕ) (k : Key) (duplicate : Row) (values : Key) → slice_get (keys_at schema table).uniques i ≡ Some columns
      → get rows (table, k) ≡ Some duplicate → values_in columns row ≡ Some values → ¬ (values_in columns duplicate ≡ Some values)
  none_like_it i columns k duplicate values is_unique at has =
      not_taken_row rows table columns values k duplicate
      (sym (ap (are_taken_unless_null rows table columns) has) ∙ first_taken_none rows table row 1 (keys_at schema table).uniques free i columns is_unique)
      at

  unique_insert : IsUnique schema more
  unique_insert t i columns k other r duplicate values is_unique at again has same =
      elim (place_cases (t, k) (table, key)) [
        | inl is ↦
            elim (place_cases (t, other) (table, key)) [
              | inl is_too ↦ same_table_key t table k key is ∙ sym (same_table_key t table other key is_too)
              | inr elsewhere ↦
                  let row_is : Some r ≡ Some row = sym at ∙ ap (get more) is ∙ get_insert_same rows (table, key) row in
                  let row_same : r ≡ row = cc in
                  let table_same : t ≡ table = same_table t table k key is in
                  let stands : get rows (t, other) ≡ Some duplicate = sym (get_insert_other rows (table, key) row (t, other) elsewhere) ∙ again in
                  absurd (none_like_it i columns other duplicate values
                  (ap (λ (n : ℕ). slice_get (keys_at schema n).uniques i) (sym table_same) ∙ is_unique)
                  (ap (λ (n : ℕ). get rows (n, other)) (sym table_same) ∙ stands)
                  (ap (values_in columns) (sym row_same) ∙ has) same)
            ]
        | inr apart ↦
            let stands : get rows (t, k) ≡ Some r = sym (get_insert_other rows (table, key) row (t, k) apart) ∙ at in
            elim (place_cases (t, other) (table, key)) [
              | inl is ↦
                  let row_is : Some duplicate ≡ Some row = sym again ∙ ap (get more) is ∙ get_insert_same rows (table, key) row in
                  let row_same : duplicate ≡ row = cc in
                  let table_same : t ≡ table = same_table t table other key is in
                  absurd (none_like_it i columns k r values
                  (ap (λ (n : ℕ). slice_get (keys_at schema n).uniques i) (sym table_same) ∙ is_unique)
                  (ap (λ (n : ℕ). get rows (n, k)) (sym table_same) ∙ stands)
                  (ap (values_in columns) (sym row_same) ∙ same) has)
              | inr elsewhere ↦
                  valid.unique t i columns k other r duplicate values is_unique stands
                  (sym (get_insert_other rows (table, key) row (t, other) elsewhere) ∙ again) has same
            ]
      ]

  pub valid_insert : IsValid schema more
  valid_insert = record { own_key = own_key_insert; unique = unique_insert }

-- ---- with a row put back

module _ (schema : Schema) (rows : Rows) (table : ℕ) (key : Key) (row : Row) (valid : IsValid schema (insert rows (table, key) row)) where
  pub own_key_of_valid : key_of schema table row ≡ Some key
  own_key_of_valid = valid.own_key table key row (get_insert_same rows (table, key) row)

  -- at the row's own key no row stands without it, so a row with its values stands elsewhere, and there is none
  no_duplicate : get rows (table, key) ≡ None → (i : ℕ) (columns : List ℕ) (values : Key) → slice_get (keys_at schema table).uniques i ≡ Some columns
      → values_in columns row ≡ Some values → ¬ (are_taken rows table columns values ≡ true)
  no_duplicate free i columns values is_unique has is_taken =
      let duplicate = row_of_taken rows table columns values is_taken in
      elim (place_cases (table, duplicate.key) (table, key)) [
        | inl is ↦ absurd (not_none duplicate.row (sym free ∙ ap (get rows) (sym is) ∙ duplicate.at))
        | inr other ↦
            let same : key ≡ duplicate.key = valid.unique table i columns key duplicate.key row duplicate.row values is_unique
            (get_insert_same rows (table, key) row) (get_insert_other rows (table, key) row (table, duplicate.key) other ∙ duplicate.at) has duplicate.has in
            absurd (not_none duplicate.row (sym free ∙ ap (λ (k : Key). get rows (table, k)) same ∙ duplicate.at))
      ]

  free_in_each : get rows (table, key) ≡ None → (i : ℕ) (columns : List ℕ) → slice_get (keys_at schema table).uniques i ≡ Some columns
      → (values : Option Key) → values_in columns row ≡ values → are_taken_unless_null rows table columns values ≡ false
  free_in_each free i columns is_unique None has = refl
  free_in_each free i columns is_unique (Some values) has =
      elim (cases_Bool (are_taken rows table columns values)) [
        | inl is ↦ absurd (no_duplicate free i columns values is_unique has is)
        | inr is ↦ is
      ]

  pub free_of_valid : get rows (table, key) ≡ None → first_taken rows table row 1 (keys_at schema table).uniques ≡ None
  free_of_valid free =
      first_taken_free rows table row 1 (keys_at schema table).uniques
      (λ i columns at. free_in_each free i columns at (values_in columns row) refl)
