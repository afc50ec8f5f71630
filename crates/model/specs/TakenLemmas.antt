-- Whether values are taken, said by the rows that stand at places.
--     taken_by_row, row_of_taken      values are taken exactly where some row of the table has them
--     not_taken_row      a row that has them can't stand where they are not taken
--     first_taken_none, first_taken_free      what the least unique key that clashes says of each of them
use Rattle.std.specs.Prelude.{◌≡◌, ℕ, suc, ◌==◌, Bool, true, false, cond, ◌&&◌, ◌||◌, List, [], ◌∷◌, Option, Some, None, if◌then◌else◌, refl, slice_get, T}
use Rattle.std.proofs.Common.{zero, sym, ◌∙◌, ap, subst, true≢false, rules}
use Rattle.std.specs.List.{list_any}
use Rattle.std.specs.Ordering.{eq_by_cmp, is_lt, is_eq}
use Rattle.std.specs.declared.cmp.Ordering.{Ordering}
use Rattle.std.specs.declared.cmp.Ordering.TheVariants.{Less, Equal, Greater}
use Rattle.std.specs.Cmp.{eq_by_cmp_equiv}
use Rattle.std.specs.FinMap.{get, entries, entries_sorted, find, is_sorted, get-entries}
use Rattle.std.specs.FinMap.Entries.{below_all}
use Rattle.std.proofs.lemmas.Map.Views.{tells_apart}
use Rattle.model.specs.declared.row.Row.{Row}
use Rattle.model.specs.declared.key.Key.{Key}
use Rattle.model.specs.Key.{key_cmp, key_cmp_total}
use Rattle.model.specs.Rows.{Place, Rows, place_cmp, values_in, is_key, are_taken, is_place}
use Rattle.model.specs.ExactLemmas.{key_cmp_exact}
use Rattle.model.specs.Effect.{are_taken_unless_null, first_taken}
use Rattle.model.specs.EditLemmas.{same_place, place_is}

-- ---- tests of an and

pub first_true : (a b : Bool) → (a && b) ≡ true → a ≡ true
first_true true b e = refl
first_true false b e = e

pub second_true : (a b : Bool) → (a && b) ≡ true → b ≡ true
second_true true b e = e
second_true false b e = cc

pub both_true : (a b : Bool) → a ≡ true → b ≡ true → (a && b) ≡ true
both_true a b p q = ap (λ x. x && b) p ∙ q

pub first_T : (a b : Bool) → T (a && b) → T a
first_T true b p = tt
first_T false b p = p

pub second_T : (a b : Bool) → T (a && b) → T b
second_T true b p = p
second_T false b p = absurd p

pub same_number : (n : ℕ) → (n == n) ≡ true
same_number n = search rules

pub number_is : (n m : ℕ) → (n == m) ≡ true → n ≡ m
number_is n m e = search rules

-- ---- entries that pass a test

not_equal : (o : Ordering) → T (is_lt o) → is_eq o ≡ false
not_equal Less p = refl
not_equal Equal p = absurd p
not_equal Greater p = absurd p

-- a place below each of the entries is not among them
none_below : (p : Place) (es : List (Place × Row)) → T (below_all place_cmp p es) → find place_cmp p es ≡ None
none_below p [] h = refl
none_below p (e ∷ es) h =
    ap (λ b. cond b (Some e.1) (find place_cmp p es)) (not_equal (place_cmp p e.0) (first_T _ _ h)) ∙ none_below p es (second_T _ _ h)

-- one that passes the test, and is found at its place
abbrev Passes : (Place × Row → Bool) → List (Place × Row) → Type 0
Passes test es = (e : Place × Row) × (find place_cmp e.0 es ≡ Some e.1) × (test e ≡ true)

found_first : (e : Place × Row) (es : List (Place × Row)) → find place_cmp e.0 (e ∷ es) ≡ Some e.1
found_first e es = ap (λ b. cond b (Some e.1) (find place_cmp e.0 es)) (same_place e.0)

-- what is found past the first entry stands elsewhere
found_later : (e f : Place × Row) (es : List (Place × Row)) (b : Bool) → is_place e.0 f.0 ≡ b → T (below_all place_cmp f.0 es)
    → find place_cmp e.0 es ≡ Some e.1 → cond b (Some f.1) (find place_cmp e.0 es) ≡ Some e.1
found_later e f es false is below found = found
found_later e f es true is below found =
    let none : find place_cmp e.0 es ≡ None = subst (λ (p : Place). find place_cmp p es ≡ None) (sym (place_is e.0 f.0 is)) (none_below f.0 es below) in
    cc

passes : (test : Place × Row → Bool) (es : List (Place × Row)) → T (is_sorted place_cmp es) → list_any test es ≡ true → Passes test es
passes test [] sorted any = absurd (true≢false (sym any))
passes test (f ∷ es) sorted any =
    elim (test f) as (λ b. test f ≡ b → (b || list_any test es) ≡ true → Passes test (f ∷ es)) [
      | true ↦ λ is any. (f, found_first f es, is)
      | false ↦ λ is any.
          let rest = passes test es (second_T _ _ sorted) any in
          (rest.0, found_later rest.0 f es (is_place rest.0.0 f.0) refl (first_T _ _ sorted) rest.1, rest.2)
    ] refl any

found_passes : (test : Place × Row → Bool) (p : Place) (row : Row) → test (p, row) ≡ true → (es : List (Place × Row))
    → find place_cmp p es ≡ Some row → list_any test es ≡ true
found_passes test p row holds [] found = cc
found_passes test p row holds (e ∷ es) found =
    elim (is_place p e.0) as (λ b. is_place p e.0 ≡ b → cond b (Some e.1) (find place_cmp p es) ≡ Some row → (test e || list_any test es) ≡ true) [
      | true ↦ λ is at.
          let row_is : e.1 ≡ row = cc in
          let passed : test e ≡ true = subst (λ (r : Row). test (e.0, r) ≡ true) (sym row_is) (subst (λ (q : Place). test (q, row) ≡ true) (place_is p e.0 is) holds) in
          ap (λ b. b || list_any test es) passed
      | false ↦ λ is at. ap (λ b. test e || b) (found_passes test p row holds es at) ∙ elim (test e) as (λ b. (b || true) ≡ true) [ true ↦ refl | false ↦ refl ]
    ] refl found

-- ---- taken

pub key_is : (found : Option Key) (values : Key) → is_key found values ≡ true → found ≡ Some values
key_is None values e = cc
key_is (Some found) values e = ap Some (tells_apart key_cmp_exact found values e)

same_key : (values : Key) → eq_by_cmp key_cmp values values ≡ true
same_key = (eq_by_cmp_equiv key_cmp_total).refl

-- the row at a place has these values, so they are taken
pub taken_by_row : (rows : Rows) (table : ℕ) (columns : List ℕ) (values key : Key) (row : Row)
    → get rows (table, key) ≡ Some row → values_in columns row ≡ Some values → are_taken rows table columns values ≡ true
taken_by_row rows table columns values key row at has =
    found_passes (λ (e : Place × Row). (e.0.0 == table) && is_key (values_in columns e.1) values) (table, key) row
    (both_true _ _ (same_number table) (ap (λ found. is_key found values) has ∙ same_key values))
    (entries rows) (sym (get-entries rows (table, key)) ∙ at)

-- the row that has these values, and where it stands
pub record TakenBy (rows : Rows) (table : ℕ) (columns : List ℕ) (values : Key) : Type 0 where
  pub key : Key
  pub row : Row
  pub at : get rows (table, key) ≡ Some row
  pub has : values_in columns row ≡ Some values

pub row_of_taken : (rows : Rows) (table : ℕ) (columns : List ℕ) (values : Key) → are_taken rows table columns values ≡ true → TakenBy rows table columns values
row_of_taken rows table columns values is =
    let p = passes (λ (e : Place × Row). (e.0.0 == table) && is_key (values_in columns e.1) values) (entries rows) (entries_sorted rows) is in
    let table_is : p.0.0.0 ≡ table = number_is _ _ (first_true _ _ p.2) in
    record {
      key = p.0.0.1;
      row = p.0.1;
      at = get-entries rows (table, p.0.0.1) ∙ ap (λ (t : ℕ). find place_cmp (t, p.0.0.1) (entries rows)) (sym table_is) ∙ p.1;
      has = key_is _ _ (second_true _ _ p.2);
    }

-- where the values are not taken, no row of the table has them
pub not_taken_row : (rows : Rows) (table : ℕ) (columns : List ℕ) (values key : Key) (row : Row)
    → are_taken rows table columns values ≡ false → get rows (table, key) ≡ Some row → ¬ (values_in columns row ≡ Some values)
not_taken_row rows table columns values key row free at has = true≢false (sym (taken_by_row rows table columns values key row at has) ∙ free)

-- ---- the least unique key that clashes

no_first : (b : Bool) (number : ℕ) (rest : Option ℕ) → (if b then Some number else rest) ≡ None → b ≡ false
no_first true number rest e = cc
no_first false number rest e = refl

no_rest : (b : Bool) (number : ℕ) (rest : Option ℕ) → (if b then Some number else rest) ≡ None → rest ≡ None
no_rest true number rest e = cc
no_rest false number rest e = e

-- none clashes, so none of them is taken
pub first_taken_none : (rows : Rows) (table : ℕ) (row : Row) (number : ℕ) (uniques : List (List ℕ)) → first_taken rows table row number uniques ≡ None
    → (i : ℕ) (columns : List ℕ) → slice_get uniques i ≡ Some columns → are_taken_unless_null rows table columns (values_in columns row) ≡ false
first_taken_none rows table row number [] none i columns at = cc
first_taken_none rows table row number (first ∷ rest) none zero columns at =
    let same : first ≡ columns = cc in
    subst (λ (c : List ℕ). are_taken_unless_null rows table c (values_in c row) ≡ false) same (no_first _ _ _ none)
first_taken_none rows table row number (first ∷ rest) none (suc i) columns at =
    first_taken_none rows table row (suc number) rest (no_rest _ _ _ none) i columns at

-- none of them is taken, so none clashes
pub first_taken_free : (rows : Rows) (table : ℕ) (row : Row) (number : ℕ) (uniques : List (List ℕ))
    → ((i : ℕ) (columns : List ℕ) → slice_get uniques i ≡ Some columns → are_taken_unless_null rows table columns (values_in columns row) ≡ false)
    → first_taken rows table row number uniques ≡ None
first_taken_free rows table row number [] free = refl
first_taken_free rows table row number (first ∷ rest) free =
    ap (λ b. if b then Some number else first_taken rows table row (suc number) rest) (free 0 first refl)
    ∙ first_taken_free rows table row (suc number) rest (λ i columns at. free (suc i) columns at)
