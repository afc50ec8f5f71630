-- The search for a key that clashes, against what is taken.
use Rattle.std.specs.Prelude.{◌≡◌, ℕ, suc, ◌+◌, ◌-◌, ◌<◌, ◌≤◌, Bool, true, false, not, if◌then◌else◌, List, [], ◌∷◌, Option, Some, None, length, drop, slice_get, unwrap_or, refl, is_some}
use Rattle.std.proofs.Common.{zero, sym, ◌∙◌, ap, true≢false, inl, inr, arith, drop-cons, add-one}
use Rattle.std.specs.Ordering.{eq_by_cmp}
use Rattle.std.specs.FinMap.{get, remove}
use Rattle.std.proofs.lemmas.Bool.{cases_Bool}
use Rattle.std.proofs.lemmas.Map.Views.{tells_apart}
use Rattle.std.proofs.lemmas.Option.{unwrap_or-slice_get}
use Rattle.model.specs.declared.key.Key.{Key}
use Rattle.model.specs.declared.row.Row.{Row}
use Rattle.model.specs.Key.{key_cmp}
use Rattle.model.specs.ExactLemmas.{key_cmp_exact}
use Rattle.model.specs.Footprint.{both_have}
use Rattle.model.specs.Rows.{Place, Rows, Schema, keys_at, values_in, are_taken, IsValid, is_place}
use Rattle.model.specs.Effect.{are_taken_unless_null, first_taken}
use Rattle.model.specs.EditLemmas.{place_is, place_cases, same_place, get_remove_same, get_remove_other}
use Rattle.model.specs.TakenLemmas.{taken_by_row, row_of_taken}
use Rattle.model.specs.ValidLemmas.{part_remove}
use Rattle.rows.specs.KeyLemmas.{same_key}
use Rattle.indexes.specs.Content.{unique_columns}
use Rattle.change.specs.EditsLemmas.{place_in_table}

-- ---- all rows but one

some_within : {X : Type 0} (xs : List X) (i : ℕ) (d : X) → i < length xs → slice_get xs i ≡ Some (unwrap_or (slice_get xs i) d)
some_within [] i d below = absurd (omega arith)
some_within (x ∷ xs) zero d below = refl
some_within (x ∷ xs) (suc i) d below = some_within xs i d (omega arith)

module _ (schema : Schema) (rows : Rows) (valid : IsValid schema rows) (table number : ℕ) (values holder key : Key) (row : Row)
    (within : (1 ≤ number) × (number ≤ length (keys_at schema table).uniques))
    (at : get rows (table, holder) ≡ Some row) (has : values_in (unique_columns schema table number) row ≡ Some values) where
  abbrev columns : List ℕ
  columns = unique_columns schema table number

  is_unique : slice_get (keys_at schema table).uniques (number - 1) ≡ Some columns
  is_unique = some_within (keys_at schema table).uniques (number - 1) [] (omega arith)

  abbrev rest : Rows
  rest = remove rows (table, key)

  holders_own : ◌≡◌ {A = Place} (table, holder) (table, key) → are_taken rest table columns values ≡ false
  holders_own is =
      elim (cases_Bool (are_taken rest table columns values)) [
        | inl found ↦
            let duplicate = row_of_taken rest table columns values found in
            let same : holder ≡ duplicate.key = valid.unique table (number - 1) columns holder duplicate.key row duplicate.row values is_unique at (part_remove rows (table, key) (table, duplicate.key) duplicate.row duplicate.at) has duplicate.has in
            let there : get rest (table, key) ≡ Some duplicate.row = ap (get rest) (sym is) ∙ ap (λ (k : Key). get rest (table, k)) same ∙ duplicate.at in
            let gone : get rest (table, key) ≡ None = get_remove_same rows (table, key) in
            cc
        | inr none ↦ none
      ]

  key_tests : is_place (table, holder) (table, key) ≡ eq_by_cmp key_cmp holder key
  key_tests = place_in_table table holder key

  -- the values are taken in the rest exactly if another key holds them
  pub taken_in_rest : are_taken rest table columns values ≡ not (eq_by_cmp key_cmp holder key)
  taken_in_rest =
      elim (place_cases (table, holder) (table, key)) [
        | inl is ↦ holders_own is ∙ ap not (sym (same_place (table, key)) ∙ ap (λ (p : Place). is_place p (table, key)) (sym is) ∙ key_tests)
        | inr other ↦
            taken_by_row rest table columns values holder row (get_remove_other rows (table, key) (table, holder) other ∙ at) has
            ∙ ap not (sym other ∙ key_tests)
      ]

-- where no row has the values, none of the rest has them
pub free_in_rest : (rows : Rows) (table : ℕ) (columns : List ℕ) (values key : Key) → are_taken rows table columns values ≡ false → are_taken (remove rows (table, key)) table columns values ≡ false
free_in_rest rows table columns values key free =
    elim (cases_Bool (are_taken (remove rows (table, key)) table columns values)) [
      | inl found ↦
          let duplicate = row_of_taken (remove rows (table, key)) table columns values found in
          absurd (true≢false (sym (taken_by_row rows table columns values duplicate.key duplicate.row (part_remove rows (table, key) (table, duplicate.key) duplicate.row duplicate.at) duplicate.has) ∙ free))
      | inr none ↦ none
    ]

-- ---- the least that clashes

-- the next unique key
pub first_taken_next : (rows : Rows) (table : ℕ) (row : Row) (uniques : List (List ℕ)) (i : ℕ) → i < length uniques
    → (columns : List ℕ) → columns ≡ unwrap_or (slice_get uniques i) []
    → first_taken rows table row (i + 1) (drop i uniques)
    ≡ (if are_taken_unless_null rows table columns (values_in columns row) then Some (i + 1) else first_taken rows table row ((i + 1) + 1) (drop (i + 1) uniques))
first_taken_next rows table row uniques i below columns is =
    ap (first_taken rows table row (i + 1)) (drop-cons uniques i [] below)
    ∙ ap (λ (c : List ℕ). if are_taken_unless_null rows table c (values_in c row) then Some (i + 1) else first_taken rows table row (suc (i + 1)) (drop (suc i) uniques))
    (sym (unwrap_or-slice_get uniques i []) ∙ sym is)
    ∙ ap (λ n. if are_taken_unless_null rows table columns (values_in columns row) then Some (i + 1) else first_taken rows table row n (drop (suc i) uniques)) (sym (add-one (i + 1)))
    ∙ ap (λ n. if are_taken_unless_null rows table columns (values_in columns row) then Some (i + 1) else first_taken rows table row ((i + 1) + 1) (drop n uniques)) (sym (add-one i))

-- the columns of the unique key after the first i
pub columns_at : (schema : Schema) (table i : ℕ) → unique_columns schema table (i + 1) ≡ unwrap_or (slice_get (keys_at schema table).uniques i) []
columns_at schema table i = let e : (i + 1) - 1 ≡ i = omega arith in ap (λ n. unwrap_or (slice_get (keys_at schema table).uniques n) []) e

module _ (schema : Schema) (rows : Rows) (table : ℕ) (row : Row) (i : ℕ) where
  -- whether rows have the values of the unique key after the first i
  abbrev are_next_taken : Bool
  are_next_taken = are_taken_unless_null rows table (unique_columns schema table (i + 1)) (values_in (unique_columns schema table (i + 1)) row)

  -- what the unique keys after the first i tell
  abbrev told : Option ℕ
  told = first_taken rows table row (i + 1) (drop i (keys_at schema table).uniques)

  -- the same of those behind the next one
  abbrev told_later : Option ℕ
  told_later = first_taken rows table row ((i + 1) + 1) (drop (i + 1) (keys_at schema table).uniques)

  -- the next one decides, or those behind it
  first_told : i < length (keys_at schema table).uniques → (taken : Bool) → are_next_taken ≡ taken → told ≡ (if taken then Some (i + 1) else told_later)
  first_told below taken is =
      first_taken_next rows table row (keys_at schema table).uniques i below (unique_columns schema table (i + 1)) (columns_at schema table i)
      ∙ ap (λ b. if b then Some (i + 1) else told_later) is

  -- a row that has them is the least that clashes
  pub first_taken_found : i < length (keys_at schema table).uniques → (whole : Option ℕ) → are_next_taken ≡ true → told ≡ whole → Some (i + 1) ≡ whole
  first_taken_found below whole found far = sym (first_told below true found) ∙ far

  -- none has them, so the rest of the unique keys decide
  pub first_taken_passed : i < length (keys_at schema table).uniques → (whole : Option ℕ) → are_next_taken ≡ false → told ≡ whole → told_later ≡ whole
  first_taken_passed below whole none far = sym (first_told below false none) ∙ far

-- ---- as the search answers

pub not_found : {X : Type 0} (found : Option X) (b : Bool) → is_some found ≡ b → found ≡ None → b ≡ false
not_found found b tells is = sym tells ∙ ap is_some is

-- none of all rows has them, so none of the rest
pub free_without : (rows : Rows) (table : ℕ) (cs : List ℕ) (values : Option Key) (key : Key) → are_taken_unless_null rows table cs values ≡ false
    → are_taken_unless_null (remove rows (table, key)) table cs values ≡ false
free_without rows table cs None key free = refl
free_without rows table cs (Some values) key free = free_in_rest rows table cs values key free

-- where two rows have the same values, these are the values of each
have_values : (old new : Option Key) → both_have old new ≡ true → (values : Key) × (old ≡ Some values) × (new ≡ Some values)
have_values old None both = absurd cc
have_values None (Some values) both = absurd cc
have_values (Some found) (Some values) both = (values, ap Some (tells_apart key_cmp_exact found values both), refl)

-- a row that keeps the values of the one that it takes the place of finds nobody else with them
pub kept_is_free : (schema : Schema) (rows : Rows) → IsValid schema rows → (table number : ℕ) → (1 ≤ number) × (number ≤ length (keys_at schema table).uniques)
    → (key : Key) (old row : Row) → get rows (table, key) ≡ Some old
    → both_have (values_in (unique_columns schema table number) old) (values_in (unique_columns schema table number) row) ≡ true
    → are_taken_unless_null (remove rows (table, key)) table (unique_columns schema table number) (values_in (unique_columns schema table number) row) ≡ false
kept_is_free schema rows valid table number within key old row at keeps =
    let columns = unique_columns schema table number in
    let has = have_values (values_in columns old) (values_in columns row) keeps in
    ap (are_taken_unless_null (remove rows (table, key)) table columns) has.2
    ∙ taken_in_rest schema rows valid table number has.0 key key old within at has.1
    ∙ ap not (same_key key)

-- ---- the row at a key, but for one

not_so : (b e : Bool) → b ≡ not e → b ≡ true → e ≡ false
not_so b true is so = cc
not_so b false is so = refl

so_too : (b e : Bool) → b ≡ not e → b ≡ false → e ≡ true
so_too b true is so = refl
so_too b false is so = cc

module _ (rows : Rows) (table : ℕ) (key except : Key) (b : Bool) (tells : b ≡ not (eq_by_cmp key_cmp key except)) where
  pub held_elsewhere : b ≡ true → (found : Option Row) → found ≡ get rows (table, key) → is_some found ≡ is_some (get (remove rows (table, except)) (table, key))
  held_elsewhere so found is =
      ap is_some (is ∙ sym (get_remove_other rows (table, except) (table, key) (place_in_table table key except ∙ not_so b (eq_by_cmp key_cmp key except) tells so)))

  pub held_by_itself : b ≡ false → b ≡ is_some (get (remove rows (table, except)) (table, key))
  held_by_itself so =
      so ∙ ap is_some (sym (get_remove_same rows (table, except)))
      ∙ ap (λ (p : Place). is_some (get (remove rows (table, except)) p))
      (sym (place_is (table, key) (table, except) (place_in_table table key except ∙ so_too b (eq_by_cmp key_cmp key except) tells so)))
