-- The laws of effects.
--     row_outcome_taken, row_outcome_free      what comes of a row that comes into its table
--     effect_skipped, effect_clashed, ..      what a change that does nothing leaves
--     get_wiped, get_effect_wipe, ..      what stands at a place after a wipe, and what its inverse puts there
--     effect_valid, serial_valid      changes keep rows valid
--     back_of_inverse, all_back_serial      inverses put back restore the rows
use Rattle.std.specs.Prelude.{◌≡◌, ℕ, ◌==◌, Bool, true, false, cond, List, [], ◌∷◌, ◌++◌, Option, Some, None, if◌then◌else◌, map, filter, is_some, unwrap_or, refl}
use Rattle.std.proofs.Common.{sym, ◌∙◌, ap, subst}
use Rattle.std.specs.List.{list_any}
use Rattle.std.specs.FinMap as map_of
use Rattle.std.specs.FinMap.{get, insert, remove, entries, find, get-entries, get-from_entries, contains_key}
use Rattle.model.specs.declared.row.Row.{Row}
use Rattle.model.specs.declared.key.Key.{Key}
use Rattle.model.specs.declared.change.Change.{Change}
use Rattle.model.specs.declared.change.Change.TheVariants.{Put, Set, Remove, Wipe}
use Rattle.model.specs.declared.patch.ColumnPatch.{ColumnPatch}
use Rattle.model.specs.Rows.{Place, Rows, Schema, place_cmp, place_cmp_total, keys_at, key_of, IsValid, is_place}
use Rattle.model.specs.Effect.{Edits, overlay, rows_under, one_edit, Outcome, Done, Skip, Clashes, ClashCause, Unique, first_taken, unless_taken, row_outcome_at, row_outcome, patch_row, set_outcome, remove_outcome, is_wiped, row_cleared, wipe_edits, outcome, edits_of, effect, inverse, back, serial, inverses, all_back, AreApart}
use Rattle.model.specs.EditLemmas.{place_is, get_overlay, get_rows_under, was_at, restored, overlay_apart, overlay_empty, overlay_more, overlay_one, rows_under_none}
use Rattle.model.specs.ValidLemmas.{valid_fewer, valid_remove, valid_insert}

-- ---- a row that comes into its table

module _ (schema : Schema) (rows : Rows) (edits : Edits) (table : ℕ) (row : Row) where
  abbrev unless_there : Key → Option Row → Outcome
  unless_there key there =
      if is_some there
      then Clashes (Unique table 0)
      else unless_taken table (first_taken rows table row 1 (keys_at schema table).uniques) (insert edits (table, key) (Some row))

  -- another row has its values in a unique key
  pub row_outcome_taken : (key : Key) (number : ℕ) → key_of schema table row ≡ Some key → get rows (table, key) ≡ None
      → first_taken rows table row 1 (keys_at schema table).uniques ≡ Some number
      → row_outcome schema rows edits table row ≡ Clashes (Unique table number)
  row_outcome_taken key number own free is_taken =
      ap (row_outcome_at schema rows edits table row) own ∙ ap (unless_there key) free
      ∙ ap (λ t. unless_taken table t (insert edits (table, key) (Some row))) is_taken

  pub row_outcome_free : (key : Key) → key_of schema table row ≡ Some key → get rows (table, key) ≡ None
      → first_taken rows table row 1 (keys_at schema table).uniques ≡ None
      → row_outcome schema rows edits table row ≡ Done (insert edits (table, key) (Some row))
  row_outcome_free key own free none =
      ap (row_outcome_at schema rows edits table row) own ∙ ap (unless_there key) free
      ∙ ap (λ t. unless_taken table t (insert edits (table, key) (Some row))) none

-- ---- what is left by a change that does nothing

pub effect_of : (schema : Schema) (rows : Rows) (c : Change) (o : Outcome) → outcome schema rows c ≡ o → effect schema rows c ≡ overlay rows (edits_of o)
effect_of schema rows c o is = ap (λ o. overlay rows (edits_of o)) is

pub inverse_of : (schema : Schema) (rows : Rows) (c : Change) (o : Outcome) → outcome schema rows c ≡ o → inverse schema rows c ≡ rows_under rows (edits_of o)
inverse_of schema rows c o is = ap (λ o. rows_under rows (edits_of o)) is

pub effect_skipped : (schema : Schema) (rows : Rows) (c : Change) → outcome schema rows c ≡ Skip → effect schema rows c ≡ rows
effect_skipped schema rows c is = effect_of schema rows c Skip is ∙ overlay_empty rows

pub effect_clashed : (schema : Schema) (rows : Rows) (c : Change) (cause : ClashCause) → outcome schema rows c ≡ Clashes cause → effect schema rows c ≡ rows
effect_clashed schema rows c cause is = effect_of schema rows c (Clashes cause) is ∙ overlay_empty rows

pub inverse_skipped : (schema : Schema) (rows : Rows) (c : Change) → outcome schema rows c ≡ Skip → inverse schema rows c ≡ map_of.empty
inverse_skipped schema rows c is = inverse_of schema rows c Skip is ∙ rows_under_none rows

-- ---- a wipe

-- the table is among these
abbrev pub is_named : List ℕ → ℕ → Bool
is_named tables table = list_any (λ other. table == other) tables

-- what edits the row at a place, if there is one
abbrev pub cleared_row : Bool → Option Row → Option (Option Row)
cleared_row named None = None
cleared_row named (Some row) = cond named (Some None) None

pub not_cleared : (row : Option Row) → cleared_row false row ≡ None
not_cleared None = refl
not_cleared (Some row) = refl

one_cleared : (p q : Place) (row : Row) (tables : List ℕ) (named here : Bool) (found : Option (Option Row)) (rest : Option Row)
    → is_named tables q.0 ≡ named → is_place p q ≡ here → found ≡ cleared_row (is_named tables p.0) rest
    → cond named (cond here (Some None) found) found ≡ cleared_row (is_named tables p.0) (cond here (Some row) rest)
one_cleared p q row tables true true found rest is at found_is =
    ap (λ b. cond b (Some None) None) (sym is ∙ ap (λ (r : Place). is_named tables r.0) (sym (place_is p q at)))
one_cleared p q row tables true false found rest is at found_is = found_is
one_cleared p q row tables false true found rest is at found_is =
    let not_named : is_named tables p.0 ≡ false = ap (λ (r : Place). is_named tables r.0) (place_is p q at) ∙ is in
    found_is ∙ ap (λ b. cleared_row b rest) not_named ∙ not_cleared rest ∙ ap (λ b. cond b (Some None) None) (sym not_named)
one_cleared p q row tables false false found rest is at found_is = found_is

cleared_step : (p : Place) (e : Place × Row) (es : List (Place × Row)) (b : Bool)
    → find place_cmp p (map row_cleared (cond b (e ∷ es) es)) ≡ cond b (cond (is_place p e.0) (Some None) (find place_cmp p (map row_cleared es))) (find place_cmp p (map row_cleared es))
cleared_step p e es true = refl
cleared_step p e es false = refl

find_cleared : (tables : List ℕ) (p : Place) (es : List (Place × Row))
    → find place_cmp p (map row_cleared (filter (is_wiped tables) es)) ≡ cleared_row (is_named tables p.0) (find place_cmp p es)
find_cleared tables p [] = refl
find_cleared tables p (e ∷ es) =
    cleared_step p e (filter (is_wiped tables) es) (is_wiped tables e)
    ∙ one_cleared p e.0 e.1 tables (is_wiped tables e) (is_place p e.0) (find place_cmp p (map row_cleared (filter (is_wiped tables) es))) (find place_cmp p es)
    refl refl (find_cleared tables p es)

-- the edits of a wipe
pub get_wiped : (rows : Rows) (tables : List ℕ) (p : Place) → get (wipe_edits rows tables) p ≡ cleared_row (is_named tables p.0) (get rows p)
get_wiped rows tables p =
    get-from_entries place_cmp_total (map row_cleared (filter (is_wiped tables) (entries rows))) p
    ∙ find_cleared tables p (entries rows)
    ∙ ap (cleared_row (is_named tables p.0)) (sym (get-entries rows p))

after_wipe : (named : Bool) (row : Option Row) → unwrap_or (cleared_row named row) row ≡ cond named None row
after_wipe true None = refl
after_wipe true (Some row) = refl
after_wipe false None = refl
after_wipe false (Some row) = refl

-- the rows of the other tables are left
pub get_effect_wipe : (schema : Schema) (rows : Rows) (tables : List ℕ) (p : Place)
    → get (effect schema rows (Wipe tables)) p ≡ cond (is_named tables p.0) None (get rows p)
get_effect_wipe schema rows tables p =
    get_overlay rows (wipe_edits rows tables) p
    ∙ ap (λ e. unwrap_or e (get rows p)) (get_wiped rows tables p)
    ∙ after_wipe (is_named tables p.0) (get rows p)

-- what is to be put back at a place after a wipe: the row, if one stood there
abbrev pub row_before_wipe : Bool → Option Row → Option (Option Row)
row_before_wipe named None = None
row_before_wipe named (Some row) = cond named (Some (Some row)) None

was_standing : (named : Bool) (row : Option Row) → was_at (cleared_row named row) row ≡ row_before_wipe named row
was_standing true None = refl
was_standing true (Some row) = refl
was_standing false None = refl
was_standing false (Some row) = refl

pub get_inverse_wipe : (schema : Schema) (rows : Rows) (tables : List ℕ) (p : Place)
    → get (inverse schema rows (Wipe tables)) p ≡ row_before_wipe (is_named tables p.0) (get rows p)
get_inverse_wipe schema rows tables p =
    get_rows_under rows (wipe_edits rows tables) p
    ∙ ap (λ e. was_at e (get rows p)) (get_wiped rows tables p)
    ∙ was_standing (is_named tables p.0) (get rows p)

-- ---- changes keep rows valid

-- after edits that leave these rows, a row comes in, or clashes and leaves the rows before the edits
valid_unless_taken : (schema : Schema) (rows between : Rows) (edits : Edits) (table : ℕ) (key : Key) (row : Row)
    → IsValid schema rows → IsValid schema between → overlay rows edits ≡ between → key_of schema table row ≡ Some key
    → (least : Option ℕ) → first_taken between table row 1 (keys_at schema table).uniques ≡ least
    → IsValid schema (overlay rows (edits_of (unless_taken table least (insert edits (table, key) (Some row)))))
valid_unless_taken schema rows between edits table key row valid valid_between leaves own (Some number) is =
    subst (IsValid schema) (sym (overlay_empty rows)) valid
valid_unless_taken schema rows between edits table key row valid valid_between leaves own None is =
    subst (IsValid schema) (sym (overlay_more rows edits (table, key) (Some row) ∙ ap (λ (r : Rows). insert r (table, key) row) leaves))
    (valid_insert schema between table key row valid_between own is)

valid_placed_at : (schema : Schema) (rows between : Rows) (edits : Edits) (table : ℕ) (row : Row)
    → IsValid schema rows → IsValid schema between → overlay rows edits ≡ between
    → (key : Option Key) → key_of schema table row ≡ key → IsValid schema (overlay rows (edits_of (row_outcome_at schema between edits table row key)))
valid_placed_at schema rows between edits table row valid valid_between leaves None own = subst (IsValid schema) (sym (overlay_empty rows)) valid
valid_placed_at schema rows between edits table row valid valid_between leaves (Some key) own =
    elim (contains_key between (table, key))
    as (λ b. IsValid schema (overlay rows (edits_of (if b then Clashes (Unique table 0)
    else unless_taken table (first_taken between table row 1 (keys_at schema table).uniques) (insert edits (table, key) (Some row)))))) [
      | true ↦ subst (IsValid schema) (sym (overlay_empty rows)) valid
      | false ↦ valid_unless_taken schema rows between edits table key row valid valid_between leaves own _ refl
    ]

valid_placed : (schema : Schema) (rows between : Rows) (edits : Edits) (table : ℕ) (row : Row)
    → IsValid schema rows → IsValid schema between → overlay rows edits ≡ between → IsValid schema (overlay rows (edits_of (row_outcome schema between edits table row)))
valid_placed schema rows between edits table row valid valid_between leaves =
    valid_placed_at schema rows between edits table row valid valid_between leaves (key_of schema table row) refl

valid_replaced : (schema : Schema) (rows : Rows) (place : Place) (patch : List ColumnPatch) (old : Option Row)
    → IsValid schema rows → IsValid schema (overlay rows (edits_of (set_outcome schema rows place patch old)))
valid_replaced schema rows place patch None valid = subst (IsValid schema) (sym (overlay_empty rows)) valid
valid_replaced schema rows place patch (Some old) valid =
    valid_placed schema rows (remove rows place) (one_edit place None) place.0 (patch_row patch old) valid (valid_remove schema rows place valid) (overlay_one rows place None)

valid_removed : (schema : Schema) (rows : Rows) (place : Place) (old : Option Row)
    → IsValid schema rows → IsValid schema (overlay rows (edits_of (remove_outcome place old)))
valid_removed schema rows place None valid = subst (IsValid schema) (sym (overlay_empty rows)) valid
valid_removed schema rows place (Some old) valid = subst (IsValid schema) (sym (overlay_one rows place None)) (valid_remove schema rows place valid)

left_by_wipe : (named : Bool) (row : Row) (was : Option Row) → cond named None was ≡ Some row → was ≡ Some row
left_by_wipe true row was e = cc
left_by_wipe false row was e = e

pub effect_valid : (schema : Schema) (rows : Rows) (c : Change) → IsValid schema rows → IsValid schema (effect schema rows c)
effect_valid schema rows (Put table row) valid = valid_placed schema rows rows map_of.empty table row valid valid (overlay_empty rows)
effect_valid schema rows (Set table key patch) valid = valid_replaced schema rows (table, key) patch (get rows (table, key)) valid
effect_valid schema rows (Remove table key) valid = valid_removed schema rows (table, key) (get rows (table, key)) valid
effect_valid schema rows (Wipe tables) valid =
    valid_fewer schema (effect schema rows (Wipe tables)) rows
    (λ p row at. left_by_wipe (is_named tables p.0) row (get rows p) (sym (get_effect_wipe schema rows tables p) ∙ at)) valid

-- ---- changes one after another

pub serial_append : (schema : Schema) (rows : Rows) (cs ds : List Change) → serial schema rows (cs ++ ds) ≡ serial schema (serial schema rows cs) ds
serial_append schema rows [] ds = refl
serial_append schema rows (c ∷ cs) ds = serial_append schema (effect schema rows c) cs ds

pub serial_valid : (schema : Schema) (rows : Rows) (cs : List Change) → IsValid schema rows → IsValid schema (serial schema rows cs)
serial_valid schema rows [] valid = valid
serial_valid schema rows (c ∷ cs) valid = serial_valid schema (effect schema rows c) cs (effect_valid schema rows c valid)

-- ---- inverses

pub back_of_inverse : (schema : Schema) (rows : Rows) (c : Change) → back (effect schema rows c) (inverse schema rows c) ≡ rows
back_of_inverse schema rows c = restored rows (edits_of (outcome schema rows c))

-- also past edits at other places
pub back_past : (schema : Schema) (rows : Rows) (c : Change) (others : Edits) → AreApart others (inverse schema rows c)
    → back (overlay (effect schema rows c) others) (inverse schema rows c) ≡ overlay rows others
back_past schema rows c others apart =
    overlay_apart (effect schema rows c) others (inverse schema rows c) apart
    ∙ ap (λ (r : Rows). overlay r others) (back_of_inverse schema rows c)

pub all_back_append : (rows : Rows) (older newer : List Edits) → all_back rows (older ++ newer) ≡ all_back (all_back rows newer) older
all_back_append rows [] newer = refl
all_back_append rows (inverse ∷ older) newer = ap (λ (r : Rows). back r inverse) (all_back_append rows older newer)

pub all_back_serial : (schema : Schema) (rows : Rows) (cs : List Change) → all_back (serial schema rows cs) (inverses schema rows cs) ≡ rows
all_back_serial schema rows [] = refl
all_back_serial schema rows (c ∷ cs) =
    ap (λ (r : Rows). back r (inverse schema rows c)) (all_back_serial schema (effect schema rows c) cs) ∙ back_of_inverse schema rows c
