-- Whether values are taken, with one row more or less.
--     has_values      a row at a place has these values in these columns of a table
--     taken_insert, taken_without      what one more row adds, and what one less leaves
--     untaken_without      in valid rows nobody else has a row's values in a unique key
use Rattle.std.specs.Prelude.{◌≡◌, ℕ, zero, suc, ◌==◌, Bool, true, false, cond, ◌&&◌, ◌||◌, List, Option, Some, None, refl}
use Rattle.std.proofs.Common.{sym, ◌∙◌, ap, inl, inr, true≢false}
use Rattle.std.specs.FinMap.{get, insert, remove}
use Rattle.std.specs.Cmp.{eq_by_cmp_equiv}
use Rattle.std.proofs.lemmas.Bool.{cases_Bool}
use Rattle.model.specs.declared.key.Key.{Key}
use Rattle.model.specs.declared.row.Row.{Row}
use Rattle.model.specs.Key.{key_cmp_total}
use Rattle.model.specs.Rows.{Place, Rows, Schema, values_in, is_key, are_taken, IsValid, is_place}
use Rattle.model.specs.EditLemmas.{same_place, place_is, place_cases, same_rows, get_insert, get_insert_same, get_insert_other, get_remove, get_remove_same, get_remove_other}
use Rattle.model.specs.TakenLemmas.{taken_by_row, row_of_taken, first_true, second_true, both_true, same_number, number_is, key_is}
use Rattle.model.specs.ValidLemmas.{not_none}
use Rattle.model.specs.CellContents.{unique_key}

-- two tests that imply each other give one answer
pub same_answer : (a b : Bool) → (a ≡ true → b ≡ true) → (b ≡ true → a ≡ true) → a ≡ b
same_answer true b there back = sym (there refl)
same_answer false true there back = back refl
same_answer false false there back = refl

or_true_first : (a b : Bool) → a ≡ true → (a || b) ≡ true
or_true_first a b e = ap (λ x. x || b) e

or_true_second : (a b : Bool) → b ≡ true → (a || b) ≡ true
or_true_second true b e = refl
or_true_second false b e = e

pub key_found : (found : Option Key) (values : Key) → found ≡ Some values → is_key found values ≡ true
key_found found values e = ap (λ f. is_key f values) e ∙ (eq_by_cmp_equiv key_cmp_total).refl values

-- the row at the place stands in the table, and has these values in these columns
abbrev pub has_values : ℕ → Row → ℕ → List ℕ → Key → Bool
has_values at row table columns values = (at == table) && is_key (values_in columns row) values

module _ (rows : Rows) (at : ℕ) (key : Key) (row : Row) (table : ℕ) (columns : List ℕ) (values : Key) where
  abbrev more : Rows
  more = insert rows (at, key) row

  taken_with : are_taken more table columns values ≡ true
      → (are_taken rows table columns values || has_values at row table columns values) ≡ true
  taken_with is =
      let t = row_of_taken more table columns values is in
      elim (place_cases (table, t.key) (at, key)) [
        | inl same ↦
            let row_is : Some t.row ≡ Some row = sym t.at ∙ ap (get more) same ∙ get_insert_same rows (at, key) row in
            let row_same : t.row ≡ row = cc in
            or_true_second _ _ (both_true _ _
            (ap (λ (p : Place). p.0 == table) (sym same) ∙ same_number table)
            (key_found _ values (ap (values_in columns) (sym row_same) ∙ t.has)))
        | inr other ↦
            or_true_first _ _
            (taken_by_row rows table columns values t.key t.row (sym (get_insert_other rows (at, key) row (table, t.key) other) ∙ t.at) t.has)
      ]

  with_taken : get rows (at, key) ≡ None
      → (are_taken rows table columns values || has_values at row table columns values) ≡ true
      → are_taken more table columns values ≡ true
  with_taken free is =
      elim (cases_Bool (are_taken rows table columns values)) [
        | inl is_taken ↦
            let t = row_of_taken rows table columns values is_taken in
            elim (place_cases (table, t.key) (at, key)) [
              | inl same ↦ absurd (not_none t.row (sym free ∙ ap (get rows) (sym same) ∙ t.at))
              | inr other ↦ taken_by_row more table columns values t.key t.row (get_insert_other rows (at, key) row (table, t.key) other ∙ t.at) t.has
            ]
        | inr untaken ↦
            let has : has_values at row table columns values ≡ true = ap (λ b. b || has_values at row table columns values) (sym untaken) ∙ is in
            taken_by_row more table columns values key row
            (ap (λ n. get more (n, key)) (sym (number_is at table (first_true _ _ has))) ∙ get_insert_same rows (at, key) row)
            (key_is _ values (second_true _ _ has))
      ]

  -- a row more, at a place where none stood
  pub taken_insert : get rows (at, key) ≡ None
      → are_taken more table columns values ≡ (are_taken rows table columns values || has_values at row table columns values)
  taken_insert free = same_answer _ _ taken_with (with_taken free)

put_in_again : (b : Bool) (row : Row) (was : Option Row) → (b ≡ true → was ≡ Some row)
    → was ≡ cond b (Some row) (cond b None was)
put_in_again true row was is = is refl
put_in_again false row was is = refl

module _ (rows : Rows) (at : ℕ) (key : Key) (row : Row) (stands : get rows (at, key) ≡ Some row) where
  -- the rows are those without it, and it
  pub inserted_again : rows ≡ insert (remove rows (at, key)) (at, key) row
  inserted_again = same_rows _ _ (λ p.
      put_in_again (is_place p (at, key)) row (get rows p) (λ is. ap (get rows) (place_is p (at, key) is) ∙ stands)
      ∙ ap (cond (is_place p (at, key)) (Some row)) (sym (get_remove rows (at, key) p))
      ∙ sym (get_insert (remove rows (at, key)) (at, key) row p))

  -- a row less
  pub taken_without : (table : ℕ) (columns : List ℕ) (values : Key)
      → are_taken rows table columns values ≡
      (are_taken (remove rows (at, key)) table columns values || has_values at row table columns values)
  taken_without table columns values =
      ap (λ (r : Rows). are_taken r table columns values) inserted_again
      ∙ taken_insert (remove rows (at, key)) at key row table columns values (get_remove_same rows (at, key))

-- in valid rows nobody else has a row's values in a unique key
pub untaken_without : (schema : Schema) (rows : Rows) → IsValid schema rows → (table : ℕ) (key : Key) (row : Row)
    → get rows (table, key) ≡ Some row
    → (number : ℕ) (columns : List ℕ) (values : Key) → unique_key schema table number ≡ Some columns
    → values_in columns row ≡ Some values
    → are_taken (remove rows (table, key)) table columns values ≡ false
untaken_without schema rows valid table key row stands zero columns values is_unique has =
    absurd (not_none columns is_unique)
untaken_without schema rows valid table key row stands (suc i) columns values is_unique has =
    elim (cases_Bool (are_taken (remove rows (table, key)) table columns values)) [
      | inr untaken ↦ untaken
      | inl is ↦
          let t = row_of_taken (remove rows (table, key)) table columns values is in
          elim (place_cases (table, t.key) (table, key)) [
            | inl same ↦ absurd (not_none t.row (sym (get_remove_same rows (table, key)) ∙ ap (get (remove rows (table, key))) (sym same) ∙ t.at))
            | inr other ↦
                let there : get rows (table, t.key) ≡ Some t.row = sym (get_remove_other rows (table, key) (table, t.key) other) ∙ t.at in
                let same : t.key ≡ key = valid.unique table i columns t.key key t.row row values is_unique there stands t.has has in
                absurd (true≢false (sym (same_place (table, key)) ∙ ap (λ (k : Key). is_place (table, k) (table, key)) (sym same) ∙ other))
          ]
    ]
