-- Rows and changes by their table: what follows.
--     get_rows_at, get_rows_here      what stands at a place among the rows of one table
--     walked_at      they are in the order in which the table's are
--     same_tables, all_tables      rows that agree in a table, and in each
--     fewer_at, valid_at, valid_by_tables      rows are valid where those of each table are
--     InTable, in_view      a change of one table alone, by its kind
--     outcome_in, effect_in      it does the same where the table's rows are the same
--     leaves_table      one of another table leaves this one's
--     effect_at, serial_at      the rows of a table after changes are those after the table's changes
use Rattle.std.specs.Prelude.{◌≡◌, ℕ, suc, ◌==◌, Bool, true, false, cond, List, [], ◌∷◌, ◌++◌, Option, Some, None, filter, map, ◌||◌, unwrap_or, if◌then◌else◌, is_some, refl}
use Rattle.std.proofs.Common.{sym, ◌∙◌, ap, subst, inl, inr, rules, append_assoc, append-nil}
use Rattle.std.proofs.lemmas.Bool.{cases_Bool}
use Rattle.std.specs.List.{list_any}
use Rattle.std.specs.FinMap.{get, insert, remove, entries, find, entries_sorted, get-entries, get-from_entries}
use Rattle.std.specs.FinMap.Entries.{is_sorted-where_key, same_entries}
use Rattle.model.specs.declared.key.Key.{Key}
use Rattle.model.specs.declared.row.Row.{Row as Record}
use Rattle.model.specs.declared.cell.Cell.{Cell}
use Rattle.model.specs.declared.cell.Cell.TheVariants.{Whole}
use Rattle.model.specs.declared.change.Change.{Change}
use Rattle.model.specs.declared.change.Change.TheVariants.{Put, Set, Remove, Wipe}
use Rattle.model.specs.declared.patch.ColumnPatch.{ColumnPatch}
use Rattle.model.specs.Rows.{Place, Rows, Schema, place_cmp, place_cmp_total, is_place, keys_at, values_in, key_of, is_key, IsValid}
use Rattle.model.specs.TableRows.{is_in_table, rows_of_table}
use Rattle.model.specs.Cells.{table_of, overlaps, row_cell, unique_cell, unique_cells}
use Rattle.model.specs.Footprint.{both_have, moved_cell, moved_cells, new_place, replaced_cells, removed_cells, footprint}
use Rattle.model.specs.Effect.{Edits, Outcome, Done, Clashes, Unique, one_edit, are_taken_unless_null, first_taken, unless_taken, row_outcome_at, row_outcome, patch_row, set_outcome, remove_outcome, wipe_edits, outcome, edits_of, effect, serial}
use Rattle.model.specs.ExactLemmas.{place_cmp_exact}
use Rattle.model.specs.EditLemmas.{place_is, same_rows, same_edits, get_remove, get_overlay}
use Rattle.model.specs.EffectLemmas.{cleared_row, not_cleared, get_wiped, get_effect_wipe, serial_append}
use Rattle.model.specs.TakenLemmas.{number_is, same_number}
use Rattle.model.specs.ValidLemmas.{IsPart, valid_fewer}
use Rattle.model.specs.OverlapLemmas.{neither}
use Rattle.model.specs.FrameLemmas.{taken_alike, leaves_free, left_by_wipe, each_of_both}
use Rattle.world_parts.specs.ByTable.{names_table, rows_at, only_if, change_at, changes_at, IsIn, AreOf, AreSameIn}

-- ---- the rows of a table

find_kept : (p : Place) (e : Place × Record) (es : List (Place × Record)) (b : Bool)
    → find place_cmp p (cond b (e ∷ es) es) ≡ cond b (cond (is_place p e.0) (Some e.1) (find place_cmp p es)) (find place_cmp p es)
find_kept p e es true = refl
find_kept p e es false = refl

one_kept : (p q : Place) (row : Record) (table : ℕ) (kept here : Bool) (found rest : Option Record)
    → (q.0 == table) ≡ kept → is_place p q ≡ here → found ≡ cond (p.0 == table) rest None
    → cond kept (cond here (Some row) found) found ≡ cond (p.0 == table) (cond here (Some row) rest) None
one_kept p q row table true true found rest is at found_is =
    ap (λ b. cond b (Some row) None) (sym (ap (λ (r : Place). r.0 == table) (place_is p q at) ∙ is))
one_kept p q row table true false found rest is at found_is = found_is
one_kept p q row table false true found rest is at found_is =
    let not : (p.0 == table) ≡ false = ap (λ (r : Place). r.0 == table) (place_is p q at) ∙ is in
    found_is ∙ ap (λ b. cond b rest None) not ∙ sym (ap (λ b. cond b (Some row) None) not)
one_kept p q row table false false found rest is at found_is = found_is

no_choice : (b : Bool) → ◌≡◌ {A = Option Record} (cond b None None) None
no_choice true = refl
no_choice false = refl

find_in_table : (table : ℕ) (p : Place) (es : List (Place × Record))
    → find place_cmp p (filter (is_in_table table) es) ≡ cond (p.0 == table) (find place_cmp p es) None
find_in_table table p [] = sym (no_choice (p.0 == table))
find_in_table table p (e ∷ es) =
    find_kept p e (filter (is_in_table table) es) (is_in_table table e)
    ∙ one_kept p e.0 e.1 table (is_in_table table e) (is_place p e.0)
    (find place_cmp p (filter (is_in_table table) es)) (find place_cmp p es)
    refl refl (find_in_table table p es)

pub get_rows_at : (table : ℕ) (rows : Rows) (p : Place) → get (rows_at table rows) p ≡ cond (p.0 == table) (get rows p) None
get_rows_at table rows p =
    get-from_entries place_cmp_total (filter (is_in_table table) (entries rows)) p
    ∙ find_in_table table p (entries rows)
    ∙ ap (λ r. cond (p.0 == table) r None) (sym (get-entries rows p))

pub get_rows_here : (table : ℕ) (rows : Rows) → AreSameIn table (rows_at table rows) rows
get_rows_here table rows key =
    get_rows_at table rows (table, key) ∙ ap (λ b. cond b (get rows (table, key)) None) (same_number table)

-- ---- in their order

entries_at : (table : ℕ) (rows : Rows) → entries (rows_at table rows) ≡ filter (is_in_table table) (entries rows)
entries_at table rows =
    same_entries place_cmp place_cmp_total place_cmp_exact (entries (rows_at table rows)) (filter (is_in_table table) (entries rows))
    (entries_sorted (rows_at table rows))
    (is_sorted-where_key place_cmp (λ (p : Place). p.0 == table) (entries rows) (entries_sorted rows))
    (λ p.
    sym (get-entries (rows_at table rows) p) ∙ get_rows_at table rows p
    ∙ ap (λ r. cond (p.0 == table) r None) (get-entries rows p)
    ∙ sym (find_in_table table p (entries rows)))

kept_again : {A : Type 0} (test : A → Bool) (xs : List A) → filter test (filter test xs) ≡ filter test xs
kept_again test [] = refl
kept_again test (x ∷ xs) = by (kept_again test xs) (test x) refl
  where
    by : filter test (filter test xs) ≡ filter test xs → (b : Bool) → test x ≡ b
        → filter test (cond b (x ∷ filter test xs) (filter test xs)) ≡ cond b (x ∷ filter test xs) (filter test xs)
    by rest true is = rw is (ap (λ ys. x ∷ ys) rest)
    by rest false is = rest

-- the rows of a table among all are those of its own
pub walked_at : (table : ℕ) (rows : Rows) → rows_of_table (rows_at table rows) table ≡ rows_of_table rows table
walked_at table rows =
    ap (λ es. map (λ (e : Place × Record). e.1) (filter (is_in_table table) es)) (entries_at table rows)
    ∙ ap (map (λ (e : Place × Record). e.1)) (kept_again (is_in_table table) (entries rows))

pub get_rows_beside : (table : ℕ) (rows : Rows) (p : Place) → (p.0 == table) ≡ false → get (rows_at table rows) p ≡ None
get_rows_beside table rows p not = get_rows_at table rows p ∙ ap (λ b. cond b (get rows p) None) not

-- rows at each place of the table, and none elsewhere
by_place : (table : ℕ) (rows others : Rows) → AreSameIn table rows others
    → ((p : Place) → (p.0 == table) ≡ false → get rows p ≡ get others p) → rows ≡ others
by_place table rows others same beside = same_rows rows others (λ p.
    elim (cases_Bool (p.0 == table)) [
      | inl is ↦ subst (λ (t : ℕ). get rows (t, p.1) ≡ get others (t, p.1)) (sym (number_is p.0 table is)) (same p.1)
      | inr not ↦ beside p not
    ])

-- rows that agree in a table have the same rows there
pub same_tables : (table : ℕ) (rows others : Rows) → AreSameIn table rows others → rows_at table rows ≡ rows_at table others
same_tables table rows others same =
    by_place table (rows_at table rows) (rows_at table others)
    (λ key. get_rows_here table rows key ∙ same key ∙ sym (get_rows_here table others key))
    (λ p not. get_rows_beside table rows p not ∙ sym (get_rows_beside table others p not))

-- and back
pub tables_same : (table : ℕ) (rows others : Rows) → rows_at table rows ≡ rows_at table others → AreSameIn table rows others
tables_same table rows others is key =
    sym (get_rows_here table rows key) ∙ ap (λ (r : Rows). get r (table, key)) is ∙ get_rows_here table others key

-- rows that agree in each table are the same
pub all_tables : (rows others : Rows) → ((table : ℕ) → rows_at table rows ≡ rows_at table others) → rows ≡ others
all_tables rows others each = same_rows rows others (λ p. tables_same p.0 rows others (each p.0) p.1)

-- ---- valid rows

kept_row : (b : Bool) (was : Option Record) (row : Record) → cond b was None ≡ Some row → was ≡ Some row
kept_row true was row e = e
kept_row false was row e = cc

fewer_at : (table : ℕ) (rows : Rows) → IsPart (rows_at table rows) rows
fewer_at table rows p row at = kept_row (p.0 == table) (get rows p) row (sym (get_rows_at table rows p) ∙ at)

pub valid_at : (schema : Schema) (table : ℕ) (rows : Rows) → IsValid schema rows → IsValid schema (rows_at table rows)
valid_at schema table rows = valid_fewer schema (rows_at table rows) rows (fewer_at table rows)

pub valid_by_tables : (schema : Schema) (rows : Rows) → ((table : ℕ) → IsValid schema (rows_at table rows)) → IsValid schema rows
valid_by_tables schema rows each = record {
  own_key = λ table key row at. (each table).own_key table key row (get_rows_here table rows key ∙ at);
  unique = λ table i columns key other row duplicate values is_unique at again has same.
      (each table).unique table i columns key other row duplicate values is_unique (get_rows_here table rows key ∙ at)
      (get_rows_here table rows other ∙ again) has same;
}

-- ---- a change of one table alone

pub data InTable (table : ℕ) : Change → Type 0 where
  puts : (row : Record) → InTable table (Put table row)
  sets : (key : Key) (patch : List ColumnPatch) → InTable table (Set table key patch)
  removes : (key : Key) → InTable table (Remove table key)
  wipes : InTable table (Wipe (table ∷ []))

said : (b : Bool) (c d : Change) → only_if b c ≡ d ∷ [] → b ≡ true
said true c d e = refl
said false c d e = cc

wiped_alone : (b : Bool) (table : ℕ) (tables : List ℕ) → only_if b (Wipe (table ∷ [])) ≡ Wipe tables ∷ [] → table ∷ [] ≡ tables
wiped_alone true table tables e = cc
wiped_alone false table tables e = cc

pub in_view : (table : ℕ) (c : Change) → IsIn table c → InTable table c
in_view table (Put at row) is =
    subst (λ (n : ℕ). InTable table (Put n row)) (sym (number_is at table (said _ _ _ is))) (puts row)
in_view table (Set at key patch) is =
    subst (λ (n : ℕ). InTable table (Set n key patch)) (sym (number_is at table (said _ _ _ is))) (sets key patch)
in_view table (Remove at key) is =
    subst (λ (n : ℕ). InTable table (Remove n key)) (sym (number_is at table (said _ _ _ is))) (removes key)
in_view table (Wipe tables) is =
    subst (λ (ts : List ℕ). InTable table (Wipe ts)) (wiped_alone (names_table tables table) table tables is) wipes

-- ---- where the table's rows are the same

module _ (rows others : Rows) (table : ℕ) (same : AreSameIn table rows others) where
  taken_in : (columns : List ℕ) (found : Option Key)
      → are_taken_unless_null rows table columns found ≡ are_taken_unless_null others table columns found
  taken_in columns None = refl
  taken_in columns (Some values) = taken_alike rows others table same columns values

  first_in : (row : Record) (number : ℕ) (uniques : List (List ℕ))
      → first_taken rows table row number uniques ≡ first_taken others table row number uniques
  first_in row number [] = refl
  first_in row number (columns ∷ uniques) =
      ap (λ b. if b then Some number else first_taken rows table row (suc number) uniques) (taken_in columns (values_in columns row))
      ∙ ap (λ least. if are_taken_unless_null others table columns (values_in columns row) then Some number else least)
      (first_in row (suc number) uniques)

  placed_at_in : (schema : Schema) (edits : Edits) (row : Record) (found : Option Key)
      → row_outcome_at schema rows edits table row found ≡ row_outcome_at schema others edits table row found
  placed_at_in schema edits row None = refl
  placed_at_in schema edits row (Some key) =
      ap (λ (there : Option Record). if is_some there then Clashes (Unique table 0)
      else unless_taken table (first_taken rows table row 1 (keys_at schema table).uniques) (insert edits (table, key) (Some row))) (same key)
      ∙ ap (λ least. if is_some (get others (table, key)) then Clashes (Unique table 0)
      else unless_taken table least (insert edits (table, key) (Some row))) (first_in row 1 (keys_at schema table).uniques)

  placed_in : (schema : Schema) (edits : Edits) (row : Record)
      → row_outcome schema rows edits table row ≡ row_outcome schema others edits table row
  placed_in schema edits row = placed_at_in schema edits row (key_of schema table row)

  removed_in : (key : Key) → AreSameIn table (remove rows (table, key)) (remove others (table, key))
  removed_in key k =
      get_remove rows (table, key) (table, k)
      ∙ ap (cond (is_place (table, k) (table, key)) None) (same k)
      ∙ sym (get_remove others (table, key) (table, k))

  cleared_in : (p : Place)
      → cleared_row (names_table (table ∷ []) p.0) (get rows p) ≡ cleared_row (names_table (table ∷ []) p.0) (get others p)
  cleared_in p =
      elim (cases_Bool (p.0 == table)) [
        | inl is ↦ ap (cleared_row (names_table (table ∷ []) p.0))
            (subst (λ (t : ℕ). get rows (t, p.1) ≡ get others (t, p.1)) (sym (number_is p.0 table is)) (same p.1))
        | inr not ↦
            let free : names_table (table ∷ []) p.0 ≡ false = neither (p.0 == table) false not refl in
            ap (λ b. cleared_row b (get rows p)) free ∙ not_cleared (get rows p) ∙ sym (not_cleared (get others p))
            ∙ ap (λ b. cleared_row b (get others p)) (sym free)
      ]

set_in : (schema : Schema) (rows others : Rows) (table : ℕ) → AreSameIn table rows others
    → (key : Key) (patch : List ColumnPatch) (old : Option Record)
    → set_outcome schema rows (table, key) patch old ≡ set_outcome schema others (table, key) patch old
set_in schema rows others table same key patch None = refl
set_in schema rows others table same key patch (Some old) =
    placed_in (remove rows (table, key)) (remove others (table, key)) table (removed_in rows others table same key) schema
    (one_edit (table, key) None) (patch_row patch old)

pub outcome_in : (schema : Schema) (rows others : Rows) (table : ℕ) → AreSameIn table rows others
    → (c : Change) → InTable table c → outcome schema rows c ≡ outcome schema others c
outcome_in schema rows others table same _ (puts row) = placed_in rows others table same schema _ row
outcome_in schema rows others table same _ (sets key patch) =
    set_in schema rows others table same key patch (get rows (table, key))
    ∙ ap (set_outcome schema others (table, key) patch) (same key)
outcome_in schema rows others table same _ (removes key) = ap (remove_outcome (table, key)) (same key)
outcome_in schema rows others table same _ wipes =
    ap Done (same_edits (wipe_edits rows (table ∷ [])) (wipe_edits others (table ∷ []))
    (λ p. get_wiped rows (table ∷ []) p ∙ cleared_in rows others table same p ∙ sym (get_wiped others (table ∷ []) p)))

pub effect_in : (schema : Schema) (rows others : Rows) (table : ℕ) → AreSameIn table rows others
    → (c : Change) → InTable table c → AreSameIn table (effect schema rows c) (effect schema others c)
effect_in schema rows others table same c is key =
    get_overlay rows (edits_of (outcome schema rows c)) (table, key)
    ∙ ap (λ (o : Outcome). unwrap_or (get (edits_of o) (table, key)) (get rows (table, key))) (outcome_in schema rows others table same c is)
    ∙ ap (unwrap_or (get (edits_of (outcome schema others c)) (table, key))) (same key)
    ∙ sym (get_overlay others (edits_of (outcome schema others c)) (table, key))

-- ---- the cells of a change of one table

row_cell_of : (table : ℕ) (found : Option Key) → AreOf table (row_cell table found)
row_cell_of table None = tt
row_cell_of table (Some key) = (refl, tt)

unique_cell_of : (table number : ℕ) (found : Option Key) → AreOf table (unique_cell table number found)
unique_cell_of table number None = tt
unique_cell_of table number (Some values) = (refl, tt)

abbrev LiesIn : ℕ → Cell → Type 0
LiesIn table cell = table_of cell ≡ table

unique_cells_of : (table : ℕ) (row : Record) (number : ℕ) (uniques : List (List ℕ)) → AreOf table (unique_cells table row number uniques)
unique_cells_of table row number [] = tt
unique_cells_of table row number (columns ∷ uniques) =
    each_of_both (LiesIn table) (unique_cell table number (values_in columns row)) (unique_cells table row (suc number) uniques)
    (unique_cell_of table number (values_in columns row)) (unique_cells_of table row (suc number) uniques)

moved_cell_of : (table number : ℕ) (old new : Option Key) → AreOf table (moved_cell table number old new)
moved_cell_of table number old new = by_both (both_have old new)
  where
    by_both : (b : Bool) → AreOf table (if b then [] else unique_cell table number old ++ unique_cell table number new)
    by_both true = tt
    by_both false =
        each_of_both (LiesIn table) (unique_cell table number old) (unique_cell table number new)
        (unique_cell_of table number old) (unique_cell_of table number new)

moved_cells_of : (table : ℕ) (old new : Record) (number : ℕ) (uniques : List (List ℕ)) → AreOf table (moved_cells table old new number uniques)
moved_cells_of table old new number [] = tt
moved_cells_of table old new number (columns ∷ uniques) =
    each_of_both (LiesIn table) (moved_cell table number (values_in columns old) (values_in columns new)) (moved_cells table old new (suc number) uniques)
    (moved_cell_of table number (values_in columns old) (values_in columns new)) (moved_cells_of table old new (suc number) uniques)

new_place_of : (table : ℕ) (key : Key) (new : Option Key) → AreOf table (new_place table key new)
new_place_of table key new = by_key (is_key new key)
  where
    by_key : (b : Bool) → AreOf table (if b then [] else row_cell table new)
    by_key true = tt
    by_key false = row_cell_of table new

replaced_of : (schema : Schema) (table : ℕ) (key : Key) (patch : List ColumnPatch) (old : Option Record)
    → AreOf table (replaced_cells schema table key patch old)
replaced_of schema table key patch None = tt
replaced_of schema table key patch (Some old) =
    each_of_both (LiesIn table) (new_place table key (key_of schema table (patch_row patch old))) _
    (new_place_of table key (key_of schema table (patch_row patch old))) (moved_cells_of table old (patch_row patch old) 1 (keys_at schema table).uniques)

removed_of : (schema : Schema) (table : ℕ) (old : Option Record) → AreOf table (removed_cells schema table old)
removed_of schema table None = tt
removed_of schema table (Some old) = unique_cells_of table old 1 (keys_at schema table).uniques

-- they lie in the table
pub footprint_of : (schema : Schema) (rows : Rows) (table : ℕ) (c : Change) → InTable table c → AreOf table (footprint schema rows c)
unfolding footprint
footprint_of schema rows table _ (puts row) =
    each_of_both (LiesIn table) (row_cell table (key_of schema table row)) (unique_cells table row 1 (keys_at schema table).uniques)
    (row_cell_of table (key_of schema table row)) (unique_cells_of table row 1 (keys_at schema table).uniques)
footprint_of schema rows table _ (sets key patch) = (refl, replaced_of schema table key patch (get rows (table, key)))
footprint_of schema rows table _ (removes key) = (refl, removed_of schema table (get rows (table, key)))
footprint_of schema rows table _ wipes = (refl, tt)

-- ---- the other tables

-- the same test, the other way round
pub turned : (n m : ℕ) → (n == m) ≡ (m == n)
turned n m = search rules

none_overlaps : (table at : ℕ) → (at == table) ≡ false → (cells : List Cell) → AreOf at cells
    → list_any (overlaps (Whole table)) cells ≡ false
none_overlaps table at not [] are = refl
none_overlaps table at not (cell ∷ cells) are =
    neither _ _ (ap (λ n. table == n) are.0 ∙ turned table at ∙ not) (none_overlaps table at not cells are.1)

pub leaves_other : (schema : Schema) (rows : Rows) (table at : ℕ) (c : Change) → InTable at c → (at == table) ≡ false
    → AreSameIn table rows (effect schema rows c)
leaves_other schema rows table at c is not =
    leaves_free schema rows c (Whole table) (none_overlaps table at not (footprint schema rows c) (footprint_of schema rows at c is))

-- ---- the rows of a table after changes

module _ (schema : Schema) (table : ℕ) (rows : Rows) where
  effect_here : (c : Change) → InTable table c → rows_at table (effect schema rows c) ≡ effect schema (rows_at table rows) c
  effect_here c is =
      by_place table (rows_at table (effect schema rows c)) (effect schema (rows_at table rows) c)
      (λ key. get_rows_here table (effect schema rows c) key
      ∙ effect_in schema rows (rows_at table rows) table (λ k. sym (get_rows_here table rows k)) c is key)
      (λ p not. get_rows_beside table (effect schema rows c) p not
      ∙ sym (get_rows_beside table rows p not)
      ∙ leaves_other schema (rows_at table rows) p.0 table c is (turned table p.0 ∙ not) p.1)

  effect_beside : (c : Change) (at : ℕ) → InTable at c → (at == table) ≡ false → rows_at table (effect schema rows c) ≡ rows_at table rows
  effect_beside c at is not =
      same_tables table (effect schema rows c) rows (λ key. sym (leaves_other schema rows table at c is not key))

  one_effect : (c : Change) (at : ℕ) → InTable at c → (b : Bool) → (at == table) ≡ b
      → rows_at table (effect schema rows c) ≡ serial schema (rows_at table rows) (only_if b c)
  one_effect c at is true here = effect_here c (subst (λ (n : ℕ). InTable n c) (number_is at table here) is)
  one_effect c at is false not = effect_beside c at is not

  wiped_here : (tables : List ℕ) → names_table tables table ≡ true
      → rows_at table (effect schema rows (Wipe tables)) ≡ effect schema (rows_at table rows) (Wipe (table ∷ []))
  wiped_here tables named =
      by_place table (rows_at table (effect schema rows (Wipe tables))) (effect schema (rows_at table rows) (Wipe (table ∷ [])))
      (λ key. get_rows_here table (effect schema rows (Wipe tables)) key
      ∙ get_effect_wipe schema rows tables (table, key)
      ∙ ap (λ b. cond b None (get rows (table, key))) named
      ∙ sym (get_effect_wipe schema (rows_at table rows) (table ∷ []) (table, key)
      ∙ ap (λ b. cond (b || false) None (get (rows_at table rows) (table, key))) (same_number table)))
      (λ p not. get_rows_beside table (effect schema rows (Wipe tables)) p not
      ∙ sym (get_effect_wipe schema (rows_at table rows) (table ∷ []) p
      ∙ ap (cond (names_table (table ∷ []) p.0) None) (get_rows_beside table rows p not)
      ∙ no_choice (names_table (table ∷ []) p.0)))

  wipe_effect : (tables : List ℕ) (b : Bool) → names_table tables table ≡ b
      → rows_at table (effect schema rows (Wipe tables)) ≡ serial schema (rows_at table rows) (only_if b (Wipe (table ∷ [])))
  wipe_effect tables true named = wiped_here tables named
  wipe_effect tables false not =
      same_tables table (effect schema rows (Wipe tables)) rows (λ key. sym (left_by_wipe schema rows tables table not key))

  pub effect_at : (c : Change) → rows_at table (effect schema rows c) ≡ serial schema (rows_at table rows) (change_at table c)
  effect_at (Put at row) = one_effect (Put at row) at (puts row) (at == table) refl
  effect_at (Set at key patch) = one_effect (Set at key patch) at (sets key patch) (at == table) refl
  effect_at (Remove at key) = one_effect (Remove at key) at (removes key) (at == table) refl
  effect_at (Wipe tables) = wipe_effect tables (names_table tables table) refl

pub changes_both : (table : ℕ) (cs more : List Change) → changes_at table (cs ++ more) ≡ changes_at table cs ++ changes_at table more
changes_both table [] more = refl
changes_both table (c ∷ cs) more =
    ap (λ ds. change_at table c ++ ds) (changes_both table cs more)
    ∙ sym (append_assoc (change_at table c) (changes_at table cs) (changes_at table more))

-- with one more
pub changes_with : (table : ℕ) (cs : List Change) (c : Change) → changes_at table (cs ++ c ∷ []) ≡ changes_at table cs ++ change_at table c
changes_with table cs c = changes_both table cs (c ∷ []) ∙ ap (λ ds. changes_at table cs ++ ds) (append-nil (change_at table c))

pub serial_at : (schema : Schema) (table : ℕ) (rows : Rows) (cs : List Change)
    → rows_at table (serial schema rows cs) ≡ serial schema (rows_at table rows) (changes_at table cs)
serial_at schema table rows [] = refl
serial_at schema table rows (c ∷ cs) =
    serial_at schema table (effect schema rows c) cs
    ∙ ap (λ (r : Rows). serial schema r (changes_at table cs)) (effect_at schema table rows c)
    ∙ sym (serial_append schema (rows_at table rows) (change_at table c) (changes_at table cs))
