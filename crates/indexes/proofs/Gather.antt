-- One table among all, and what a change of it does to what is gathered.
use Rattle.std.specs.Prelude.{◌≡◌, ◌≢◌, ℕ, suc, ◌+◌, ◌<◌, true, false, cond, List, [], ◌∷◌, ◌++◌, map, Option, Some, None, refl, ◌⊎◌, slice_get, slice_set, unwrap_or}
use Rattle.std.proofs.Common.{zero, sym, ◌∙◌, ap, subst, inl, inr, arith, true≢false}
use Rattle.std.specs.Ordering.{eq_by_cmp}
use Rattle.std.specs.Cmp.{eq_by_cmp_equiv}
use Rattle.std.specs.FinMap.{FinMap, find, get, entries, get-entries, insert, remove, get-from_entries, get-insert, get-remove, same_map}
use Rattle.std.proofs.lemmas.Map.Views.{tells_apart}
use Rattle.model.specs.declared.key.Key.{Key}
use Rattle.model.specs.declared.row.Row.{Row}
use Rattle.model.specs.Key.{key_cmp, key_cmp_total}
use Rattle.model.specs.ExactLemmas.{place_cmp_exact}
use Rattle.model.specs.Rows.{Place, Rows, Schema, TableKeys, place_cmp, place_cmp_total, values_in, keys_at, IsValid}
use Rattle.model.specs.Effect.{first_taken, are_taken_unless_null}
use Rattle.model.specs.TakenLemmas.{taken_by_row, first_taken_none}
use Rattle.rows.specs.KeyLemmas.{one_or_apart, same_key}
use Rattle.indexes.specs.Table.{TableContent, NoClash, IsSound}
use Rattle.indexes.specs.Gathered.{placed, rows_of, schema_of, AllSound}

same_or_not : (n m : ℕ) → (n ≡ m) ⊎ (n ≢ m)
same_or_not n m = grind arith

-- ---- places

same_place : (p : Place) → eq_by_cmp place_cmp p p ≡ true
same_place = (eq_by_cmp_equiv place_cmp_total).refl

apart_by : (p q : Place) → p ≢ q → eq_by_cmp place_cmp p q ≡ false
apart_by p q differs =
    elim (eq_by_cmp place_cmp p q) as (λ b. eq_by_cmp place_cmp p q ≡ b → b ≡ false) [
      | true ↦ λ e. absurd (differs (tells_apart place_cmp_exact p q e))
      | false ↦ λ e. refl
    ] refl

pub other_table : (m n : ℕ) (key other : Key) → m ≢ n → eq_by_cmp place_cmp (m, key) (n, other) ≡ false
other_table m n key other differs = apart_by (m, key) (n, other) (λ e. differs (ap (λ (p : Place). p.0) e))

same_table : (n : ℕ) (key other : Key) → eq_by_cmp place_cmp (n, key) (n, other) ≡ eq_by_cmp key_cmp key other
same_table n key other = elim (one_or_apart key other) [
  | inl same ↦ subst (λ (k : Key). eq_by_cmp place_cmp (n, key) (n, k) ≡ eq_by_cmp key_cmp key k) same (same_place (n, key) ∙ sym (same_key key))
  | inr apart ↦ apart_by (n, key) (n, other) (λ e.
      let key_is : key ≡ other = ap (λ (p : Place). p.1) e in
      let alike : eq_by_cmp key_cmp key other ≡ true = subst (λ (k : Key). eq_by_cmp key_cmp key k ≡ true) key_is (same_key key) in
      true≢false (sym alike ∙ apart.there)) ∙ sym apart.there
]

-- ---- look-ups

abbrev pub at_table : Option TableContent → Key → Option Row
at_table None key = None
at_table (Some t) key = get t.rows key

abbrev or_else : Option Row → Option Row → Option Row
or_else None other = other
or_else (Some row) other = Some row

find_append : (p : Place) (es fs : List (Place × Row)) → find place_cmp p (es ++ fs) ≡ or_else (find place_cmp p es) (find place_cmp p fs)
find_append p [] fs = refl
find_append p (e ∷ es) fs =
    elim (eq_by_cmp place_cmp p e.0) as (λ b. cond b (Some e.1) (find place_cmp p (es ++ fs)) ≡ or_else (cond b (Some e.1) (find place_cmp p es)) (find place_cmp p fs)) [
      | true ↦ refl
      | false ↦ find_append p es fs
    ]

find_own : (n : ℕ) (key : Key) (es : List (Key × Row)) → find place_cmp (n, key) (map (λ e. ((n, e.0), e.1)) es) ≡ find key_cmp key es
find_own n key [] = refl
find_own n key (e ∷ es) =
    ap (λ b. cond b (Some e.1) (find place_cmp (n, key) (map (λ e. ((n, e.0), e.1)) es))) (same_table n key e.0)
    ∙ ap (cond (eq_by_cmp key_cmp key e.0) (Some e.1)) (find_own n key es)

find_others : (m n : ℕ) (key : Key) (es : List (Key × Row)) → m ≢ n → find place_cmp (m, key) (map (λ e. ((n, e.0), e.1)) es) ≡ None
find_others m n key [] differs = refl
find_others m n key (e ∷ es) differs =
    ap (λ b. cond b (Some e.1) (find place_cmp (m, key) (map (λ e. ((n, e.0), e.1)) es))) (other_table m n key e.0 differs) ∙ find_others m n key es differs

before_placed : (n m : ℕ) (key : Key) (ts : List TableContent) → m < n → find place_cmp (m, key) (placed n ts) ≡ None
before_placed n m key [] l = refl
before_placed n m key (t ∷ ts) l =
    find_append (m, key) (map (λ e. ((n, e.0), e.1)) (entries t.rows)) (placed (suc n) ts)
    ∙ ap (λ o. or_else o (find place_cmp (m, key) (placed (suc n) ts))) (find_others m n key (entries t.rows) (λ e. absurd (omega arith)))
    ∙ before_placed (suc n) m key ts (omega arith)

or_none : (o : Option Row) → or_else o None ≡ o
or_none None = refl
or_none (Some row) = refl

found_placed : (n : ℕ) (ts : List TableContent) (i m : ℕ) (key : Key) → m ≡ n + i → find place_cmp (m, key) (placed n ts) ≡ at_table (slice_get ts i) key
found_placed n [] i m key is = refl
found_placed n (t ∷ ts) zero m key is =
    let here : n ≡ m = omega arith in
    find_append (m, key) (map (λ e. ((n, e.0), e.1)) (entries t.rows)) (placed (suc n) ts)
    ∙ ap (or_else (find place_cmp (m, key) (map (λ e. ((n, e.0), e.1)) (entries t.rows)))) (before_placed (suc n) m key ts (omega arith))
    ∙ or_none _
    ∙ subst (λ (j : ℕ). find place_cmp (j, key) (map (λ e. ((n, e.0), e.1)) (entries t.rows)) ≡ get t.rows key) here (find_own n key (entries t.rows) ∙ sym (get-entries t.rows key))
found_placed n (t ∷ ts) (suc i) m key is =
    find_append (m, key) (map (λ e. ((n, e.0), e.1)) (entries t.rows)) (placed (suc n) ts)
    ∙ ap (λ o. or_else o (find place_cmp (m, key) (placed (suc n) ts))) (find_others m n key (entries t.rows) (λ e. absurd (omega arith)))
    ∙ found_placed (suc n) ts i m key (omega arith)

-- what the tables have at a place is what the table has at its key
pub get_gathered : (ts : List TableContent) (i : ℕ) (key : Key) → get (rows_of ts) (i, key) ≡ at_table (slice_get ts i) key
get_gathered ts i key = get-from_entries place_cmp_total (placed 0 ts) (i, key) ∙ found_placed 0 ts i i key (omega arith)

-- ---- one of the tables, and another in its place

pub set_there : (ts : List TableContent) (i : ℕ) (t new : TableContent) → slice_get ts i ≡ Some t → slice_get (slice_set ts i new) i ≡ Some new
set_there [] i t new at = absurd cc
set_there (s ∷ ts) zero t new at = refl
set_there (s ∷ ts) (suc i) t new at = set_there ts i t new at

pub set_elsewhere : (ts : List TableContent) (i j : ℕ) (new : TableContent) → j ≢ i → slice_get (slice_set ts i new) j ≡ slice_get ts j
set_elsewhere [] i j new differs = refl
set_elsewhere (s ∷ ts) zero zero new differs = absurd (differs refl)
set_elsewhere (s ∷ ts) zero (suc j) new differs = refl
set_elsewhere (s ∷ ts) (suc i) zero new differs = refl
set_elsewhere (s ∷ ts) (suc i) (suc j) new differs = set_elsewhere ts i j new (λ e. differs (ap suc e))

pub schema_at : (ts : List TableContent) (i : ℕ) (t : TableContent) → slice_get ts i ≡ Some t → slice_get (schema_of ts) i ≡ Some t.keys
schema_at [] i t at = absurd cc
schema_at (s ∷ ts) zero t at = let same : s ≡ t = cc in ap (λ (u : TableContent). Some u.keys) same
schema_at (s ∷ ts) (suc i) t at = schema_at ts i t at

pub keys_is : (ts : List TableContent) (i : ℕ) (t : TableContent) → slice_get ts i ≡ Some t → keys_at (schema_of ts) i ≡ t.keys
keys_is ts i t at = ap (λ o. unwrap_or o (record { primary = []; uniques = [] })) (schema_at ts i t at)

pub get_is : (ts : List TableContent) (i : ℕ) (t : TableContent) → slice_get ts i ≡ Some t → (key : Key) → get (rows_of ts) (i, key) ≡ get t.rows key
get_is ts i t at key = get_gathered ts i key ∙ ap (λ o. at_table o key) at

pub get_without : (ts : List TableContent) (i : ℕ) (t : TableContent) → slice_get ts i ≡ Some t → (old_key q : Key) → get (remove (rows_of ts) (i, old_key)) (i, q) ≡ get (remove t.rows old_key) q
get_without ts i t at old_key q =
    get-remove place_cmp_total (rows_of ts) (i, old_key) (i, q) ∙ ap (λ b. cond b None (get (rows_of ts) (i, q))) (same_table i q old_key)
    ∙ ap (cond (eq_by_cmp key_cmp q old_key) None) (get_is ts i t at q) ∙ sym (get-remove key_cmp_total t.rows old_key q)

module _ (ts : List TableContent) (i : ℕ) (t : TableContent) (at : slice_get ts i ≡ Some t) (new : TableContent) where
  pub get_there : (key : Key) → get (rows_of (slice_set ts i new)) (i, key) ≡ get new.rows key
  get_there key = get_is (slice_set ts i new) i new (set_there ts i t new at) key

  pub get_elsewhere : (j : ℕ) (key : Key) → j ≢ i → get (rows_of (slice_set ts i new)) (j, key) ≡ get (rows_of ts) (j, key)
  get_elsewhere j key differs = get_gathered (slice_set ts i new) j key ∙ ap (λ o. at_table o key) (set_elsewhere ts i j new differs) ∙ sym (get_gathered ts j key)

  -- rows that have what the new table has, and elsewhere what there was
  pub rows_after : (rows : Rows) → ((key : Key) → get rows (i, key) ≡ get new.rows key) → ((j : ℕ) (key : Key) → j ≢ i → get rows (j, key) ≡ get (rows_of ts) (j, key)) → rows_of (slice_set ts i new) ≡ rows
  rows_after rows there elsewhere = same_map place_cmp_total place_cmp_exact _ _ (λ p. elim (same_or_not p.0 i) [
    | inl same ↦ subst (λ (j : ℕ). get (rows_of (slice_set ts i new)) (j, p.1) ≡ get rows (j, p.1)) (sym same) (get_there p.1 ∙ sym (there p.1))
    | inr differs ↦ get_elsewhere p.0 p.1 differs ∙ sym (elsewhere p.0 p.1 differs)
  ])

  pub rows_inserted : (key : Key) (row : Row) → new.rows ≡ insert t.rows key row → rows_of (slice_set ts i new) ≡ insert (rows_of ts) (i, key) row
  rows_inserted key row is = rows_after (insert (rows_of ts) (i, key) row)
      (λ q. get-insert place_cmp_total (rows_of ts) (i, key) row (i, q) ∙ ap (λ b. cond b (Some row) (get (rows_of ts) (i, q))) (same_table i q key)
      ∙ ap (cond (eq_by_cmp key_cmp q key) (Some row)) (get_is ts i t at q)
      ∙ sym (get-insert key_cmp_total t.rows key row q) ∙ ap (λ m. get m q) (sym is))
      (λ j q differs. get-insert place_cmp_total (rows_of ts) (i, key) row (j, q) ∙ ap (λ b. cond b (Some row) (get (rows_of ts) (j, q))) (other_table j i q key differs))

  pub rows_removed : (key : Key) → new.rows ≡ remove t.rows key → rows_of (slice_set ts i new) ≡ remove (rows_of ts) (i, key)
  rows_removed key is = rows_after (remove (rows_of ts) (i, key)) (λ q. get_without ts i t at key q ∙ ap (λ m. get m q) (sym is))
      (λ j q differs. get-remove place_cmp_total (rows_of ts) (i, key) (j, q) ∙ ap (λ b. cond b None (get (rows_of ts) (j, q))) (other_table j i q key differs))

  pub rows_same : new.rows ≡ t.rows → rows_of (slice_set ts i new) ≡ rows_of ts
  rows_same is = rows_after (rows_of ts) (λ q. get_is ts i t at q ∙ ap (λ m. get m q) (sym is)) (λ j q differs. refl)

  pub rows_replaced : (old_key key : Key) (row : Row) → new.rows ≡ insert (remove t.rows old_key) key row → rows_of (slice_set ts i new) ≡ insert (remove (rows_of ts) (i, old_key)) (i, key) row
  rows_replaced old_key key row is = rows_after (insert (remove (rows_of ts) (i, old_key)) (i, key) row)
      (λ q. get-insert place_cmp_total (remove (rows_of ts) (i, old_key)) (i, key) row (i, q) ∙ ap (λ b. cond b (Some row) (get (remove (rows_of ts) (i, old_key)) (i, q))) (same_table i q key)
      ∙ ap (cond (eq_by_cmp key_cmp q key) (Some row)) (get_without ts i t at old_key q)
      ∙ sym (get-insert key_cmp_total (remove t.rows old_key) key row q) ∙ ap (λ m. get m q) (sym is))
      (λ j q differs. get-insert place_cmp_total (remove (rows_of ts) (i, old_key)) (i, key) row (j, q)
      ∙ ap (λ b. cond b (Some row) (get (remove (rows_of ts) (i, old_key)) (j, q))) (other_table j i q key differs)
      ∙ get-remove place_cmp_total (rows_of ts) (i, old_key) (j, q) ∙ ap (λ b. cond b None (get (rows_of ts) (j, q))) (other_table j i q old_key differs))

-- ---- what one table needs, from what is gathered

-- where no row of a table agrees with this one in a unique key, none of the table by itself does
pub no_clash : (keys : TableKeys) (rows : Rows) (own : FinMap key_cmp Row) (table : ℕ) (row : Row) → ((key : Key) → get rows (table, key) ≡ get own key)
    → first_taken rows table row 1 keys.uniques ≡ None → NoClash keys own row
no_clash keys rows own table row is none i columns key values duplicate at there has mine =
    let free = first_taken_none rows table row 1 keys.uniques none i columns at in
    let taken = taken_by_row rows table columns values key duplicate (is key ∙ there) has in
    true≢false (sym taken ∙ sym (ap (are_taken_unless_null rows table columns) mine) ∙ free)

pub sound_after : (ts : List TableContent) (i : ℕ) (t new : TableContent) → slice_get ts i ≡ Some t → AllSound ts → IsSound new → AllSound (slice_set ts i new)
sound_after ts i t new at all sound j s there = elim (same_or_not j i) [
  | inl same ↦
      let is : slice_get (slice_set ts i new) j ≡ Some new = ap (slice_get (slice_set ts i new)) same ∙ set_there ts i t new at in
      let new_is : new ≡ s = cc in
      subst IsSound new_is sound
  | inr differs ↦ all j s (sym (set_elsewhere ts i j new differs) ∙ there)
]

pub schema_after : (ts : List TableContent) (i : ℕ) (t new : TableContent) → slice_get ts i ≡ Some t → new.keys ≡ t.keys → schema_of (slice_set ts i new) ≡ schema_of ts
schema_after [] i t new at same = absurd cc
schema_after (s ∷ ts) zero t new at same = let is : s ≡ t = cc in ap (λ (k : TableKeys). k ∷ schema_of ts) (same ∙ ap (λ (u : TableContent). u.keys) (sym is))
schema_after (s ∷ ts) (suc i) t new at same = ap (λ (ks : Schema). s.keys ∷ ks) (schema_after ts i t new at same)

-- a place with a row is of a table
abbrev pub TableAt : List TableContent → ℕ → Key → Row → Type 0
TableAt ts i key row = (t : TableContent) × (slice_get ts i ≡ Some t) × (get t.rows key ≡ Some row)

at_some : (o : Option TableContent) (key : Key) (row : Row) → at_table o key ≡ Some row → (t : TableContent) × (o ≡ Some t) × (get t.rows key ≡ Some row)
at_some None key row e = absurd cc
at_some (Some t) key row e = (t, refl, e)

pub table_at : (ts : List TableContent) (i : ℕ) (key : Key) (row : Row) → get (rows_of ts) (i, key) ≡ Some row → TableAt ts i key row
table_at ts i key row e = at_some (slice_get ts i) key row (sym (get_gathered ts i key) ∙ e)

pub valid : (ts : List TableContent) → AllSound ts → IsValid (schema_of ts) (rows_of ts)
valid ts all = record {
  own_key = λ table key row e.
      let a = table_at ts table key row e in
      ap (λ (k : TableKeys). values_in k.primary row) (keys_is ts table a.0 a.1) ∙ (all table a.0 a.1).own_key key row a.2;
  unique = λ table i columns key other row duplicate values at e f has too.
      let a = table_at ts table key row e in
      let b = sym (get_is ts table a.0 a.1 other) ∙ f in
      (all table a.0 a.1).unique i columns key other row duplicate values (ap (λ (k : TableKeys). slice_get k.uniques i) (sym (keys_is ts table a.0 a.1)) ∙ at) a.2 b has too;
}
