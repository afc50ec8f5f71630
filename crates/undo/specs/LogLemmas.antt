-- The laws of the inverses of a transaction's changes.
--     FillsCell, fills_of      which cells a row fills, by cases
--     kept_or_held      a cell that a row fills is filled after changes too, or they hold it
--     secured      what the inverses of changes need or give up is held, or filled by a row whose place is held
--     needed_settled      what is needed is among what is given up
--     both_held      a cell that is held by two is shared by them
--     settled_filled      what one transaction needs and another gives up is filled on the live rows
--     log_undone, log_back, log_valid      the rows once a log is undone; it takes its changes back; they are valid at each step
--     log_altered, logs_apart      what a log alters is held by its changes; what two alter is apart
--     log_more_done, log_more_skipped      one more change
--     log_rest      the log of the last changes
--     log_alike, log_past      the log takes its changes back past others too
use Rattle.std.specs.Prelude.{◌≡◌, ℕ, zero, suc, ◌+◌, ◌⊎◌, ◌==◌, ◌&&◌, ◌||◌, Bool, true, false, cond, List, [], ◌∷◌, ◌++◌, map, Option, Some, None, refl, slice_get}
use Rattle.std.proofs.Common.{sym, ◌∙◌, ap, subst, inl, inr, true≢false, arith, zero-add}
use Rattle.std.specs.List.{Contains, list_any}
use Rattle.std.specs.Cmp.{eq_by_cmp_equiv}
use Rattle.std.specs.FinMap.{get}
use Rattle.std.proofs.lemmas.Bool.{cases_Bool}
use Rattle.std.proofs.lemmas.List.Folds.{list_any-append}
use Rattle.std.proofs.lemmas.List.Elements.{Contains-append_left, Contains-append_right, Contains-append_cases}
use Rattle.std.proofs.lemmas.Map.Views.{tells_apart}
use Rattle.model.specs.declared.key.Key.{Key}
use Rattle.model.specs.declared.row.Row.{Row as Record}
use Rattle.model.specs.declared.change.Change.{Change}
use Rattle.model.specs.declared.cell.Cell.{Cell}
use Rattle.model.specs.declared.cell.Cell.TheVariants.{Row, Uniq, Whole}
use Rattle.model.specs.Key.{key_cmp_total}
use Rattle.model.specs.ExactLemmas.{key_cmp_exact}
use Rattle.model.specs.Rows.{Place, Rows, Schema, keys_at, key_of, values_in, are_taken, IsValid}
use Rattle.model.specs.Effect.{Skip, one_edit, outcome, effect, inverse, back, serial, inverses, all_back, edits_of as edits_of_outcome}
use Rattle.model.specs.EditLemmas.{same_place, was_at, get_rows_under, get_edit, get_one_edit, overlay_empty}
use Rattle.model.specs.EffectLemmas.{effect_valid, serial_valid, inverse_skipped, all_back_serial}
use Rattle.model.specs.OverlapLemmas.{neither_first, neither_second, neither}
use Rattle.model.specs.TakenLemmas.{first_true, second_true, both_true, number_is, same_number, taken_by_row, row_of_taken}
use Rattle.model.specs.Cells.{table_of, overlaps, same_key, row_cell, unique_cell, unique_cells, cells_of}
use Rattle.model.specs.Footprint.{footprint, held_cells, shares_cell}
use Rattle.model.specs.CellContents.{SameAt, AreSame}
use Rattle.model.specs.FrameLemmas.{each_of_first, each_of_second}
use Rattle.model.specs.AlikeLemmas.{same_footprint, same_outcome, same_inverse, alike_after}
use Rattle.model.specs.SerialLemmas.{each_so, leaves_free_cell, same_past}
use Rattle.indexes.specs.Content.{Content, KeepsCells}
use Rattle.change.specs.declared.inverse.Inverse.{Inverse}
use Rattle.change.specs.declared.inverse.Inverse.TheVariants.{Take, Put, Replace, Move, Unwipe}
use Rattle.change.specs.Inverse.{edits_of}
use Rattle.change.specs.InverseLemmas.{contains_first, contains_here, contains_later, contains_one}
use Rattle.change.specs.Altered.{cells_altered}
use Rattle.change.specs.Applied.{IsDone}
use Rattle.undo.specs.Undo.{content_undone, cells_settled, all_settled, cells_needed}
use Rattle.undo.specs.Others.{all_altered, all_needed, AreValidBack, IsFilled}
use Rattle.undo.specs.OthersLemmas.{in_cells_of}
use Rattle.undo.specs.UndoLemmas.{rows_undone}
use Rattle.undo.specs.LogOf.{IsLogOf, no_change, with_done, with_skipped, IsFilledBy, IsSecured, StandsLive}

-- ---- which cells a row fills

-- a row fills its place, and its values in each unique key where none is null
pub data FillsCell (schema : Schema) (table : ℕ) (row : Record) : Cell → Type 0 where
  at_place : (key : Key) → key_of schema table row ≡ Some key → FillsCell schema table row (Row table key)
  at_values : (i : ℕ) (columns : List ℕ) (values : Key) → slice_get (keys_at schema table).uniques i ≡ Some columns
      → values_in columns row ≡ Some values → FillsCell schema table row (Uniq table (suc i) values)

module _ (schema : Schema) (table : ℕ) (row : Record) where
  of_place : (found : Option Key) → key_of schema table row ≡ found → (cell : Cell) → Contains (row_cell table found) cell → FillsCell schema table row cell
  of_place None own cell is = absurd (omega (arith, is.1))
  of_place (Some key) own cell is = subst (FillsCell schema table row) (contains_one (Row table key) cell is) (at_place key own)

  -- of the unique keys from one on
  abbrev FillsFrom : ℕ → List (List ℕ) → Type 0
  FillsFrom first uniques =
      (i : ℕ) (columns : List ℕ) → slice_get uniques i ≡ Some columns → (values : Key) → values_in columns row ≡ Some values
      → FillsCell schema table row (Uniq table (suc (first + i)) values)

  of_values : (uniques : List (List ℕ)) (first : ℕ) → FillsFrom first uniques → (cell : Cell)
      → Contains (unique_cells table row (suc first) uniques) cell → FillsCell schema table row cell
  of_values [] first fills cell is = absurd (omega (arith, is.1))
  of_values (columns ∷ uniques) first fills cell is =
      elim (Contains-append_cases (unique_cell table (suc first) (values_in columns row)) (unique_cells table row (suc (suc first)) uniques) cell is) [
        | inl here ↦ one (values_in columns row) refl here
        | inr later ↦
            of_values uniques (suc first) (λ i own at values has.
            let same : first + suc i ≡ suc first + i = omega arith in
            subst (λ (n : ℕ). FillsCell schema table row (Uniq table (suc n) values)) same (fills (suc i) own at values has)) cell later
      ]
    where
      one : (found : Option Key) → values_in columns row ≡ found → Contains (unique_cell table (suc first) found) cell → FillsCell schema table row cell
      one None has none = absurd (omega (arith, none.1))
      one (Some values) has its =
          let same : first + 0 ≡ first = omega arith in
          subst (FillsCell schema table row) (contains_one (Uniq table (suc first) values) cell its)
          (subst (λ (n : ℕ). FillsCell schema table row (Uniq table (suc n) values)) same (fills 0 columns refl values has))

  pub fills_of : (cell : Cell) → Contains (cells_of schema table row) cell → FillsCell schema table row cell
  fills_of cell is =
      elim (Contains-append_cases (row_cell table (key_of schema table row)) (unique_cells table row 1 (keys_at schema table).uniques) cell is) [
        | inl place ↦ of_place (key_of schema table row) refl cell place
        | inr unique ↦
            of_values (keys_at schema table).uniques 0 (λ i columns at values has.
            subst (λ (n : ℕ). FillsCell schema table row (Uniq table (suc n) values)) (sym (zero-add i)) (at_values i columns values at has)) cell unique
      ]

  among_values : (uniques : List (List ℕ)) (first i : ℕ) (columns : List ℕ) (values : Key) → slice_get uniques i ≡ Some columns
      → values_in columns row ≡ Some values → Contains (unique_cells table row first uniques) (Uniq table (first + i) values)
  among_values [] first i columns values at has = cc
  among_values (own ∷ uniques) first zero columns values at has =
      let same : own ≡ columns = cc in
      let there : values_in own row ≡ Some values = ap (λ (c : List ℕ). values_in c row) same ∙ has in
      let here : first + 0 ≡ first = omega arith in
      Contains-append_left (unique_cell table first (values_in own row)) (unique_cells table row (suc first) uniques) (Uniq table (first + 0) values)
      (subst (λ found. Contains (unique_cell table first found) (Uniq table (first + 0) values)) (sym there)
      (subst (λ (n : ℕ). Contains (Uniq table first values ∷ []) (Uniq table n values)) (sym here) (contains_here (Uniq table first values) [])))
  among_values (own ∷ uniques) first (suc i) columns values at has =
      let same : suc first + i ≡ first + suc i = omega arith in
      Contains-append_right (unique_cell table first (values_in own row)) (unique_cells table row (suc first) uniques) (Uniq table (first + suc i) values)
      (subst (λ (n : ℕ). Contains (unique_cells table row (suc first) uniques) (Uniq table n values)) same (among_values uniques (suc first) i columns values at has))

  pub place_in_cells : (key : Key) → key_of schema table row ≡ Some key → Contains (cells_of schema table row) (Row table key)
  place_in_cells key own =
      Contains-append_left (row_cell table (key_of schema table row)) (unique_cells table row 1 (keys_at schema table).uniques) (Row table key)
      (subst (λ found. Contains (row_cell table found) (Row table key)) (sym own) (contains_here (Row table key) []))

  pub values_in_cells : (i : ℕ) (columns : List ℕ) (values : Key) → slice_get (keys_at schema table).uniques i ≡ Some columns
      → values_in columns row ≡ Some values → Contains (cells_of schema table row) (Uniq table (suc i) values)
  values_in_cells i columns values at has =
      let same : 1 + i ≡ suc i = omega arith in
      Contains-append_right (row_cell table (key_of schema table row)) (unique_cells table row 1 (keys_at schema table).uniques) (Uniq table (suc i) values)
      (subst (λ (n : ℕ). Contains (unique_cells table row 1 (keys_at schema table).uniques) (Uniq table n values)) same
      (among_values (keys_at schema table).uniques 1 i columns values at has))

-- ---- through changes

-- a row of the table fills the cell after changes: the one at the same key, or one whose place they hold
pub record IsStillFilled (schema : Schema) (rows : Rows) (table : ℕ) (was : Key) (held : List Cell) (cell : Cell) : Type 0 where
  pub key : Key
  pub row : Record
  pub at : get rows (table, key) ≡ Some row
  pub fills : Contains (cells_of schema table row) cell
  pub place : (key ≡ was) ⊎ (list_any (overlaps (Row table key)) held ≡ true)

module _ (schema : Schema) (rows : Rows) (valid : IsValid schema rows) (table : ℕ) (key : Key) (row : Record) (stands : get rows (table, key) ≡ Some row) (cs : List Change) where
  abbrev after : Rows
  after = serial schema rows cs

  abbrev held : List Cell
  held = held_cells schema rows cs

  -- the row that has the values now
  by_holder : (i : ℕ) (columns : List ℕ) (values : Key) → slice_get (keys_at schema table).uniques i ≡ Some columns → values_in columns row ≡ Some values
      → are_taken after table columns values ≡ true → IsStillFilled schema after table key held (Uniq table (suc i) values)
  by_holder i columns values at has taken =
      let holder = row_of_taken after table columns values taken in
      record {
        key = holder.key;
        row = holder.row;
        at = holder.at;
        fills = values_in_cells schema table holder.row i columns values at holder.has;
        place = elim (cases_Bool (list_any (overlaps (Row table holder.key)) held)) [
          | inl is ↦ inr is
          | inr free ↦
              let was : get rows (table, holder.key) ≡ get after (table, holder.key) = leaves_free_cell schema rows cs (Row table holder.key) free in
              inl (valid.unique table i columns holder.key key holder.row row values at (was ∙ holder.at) stands holder.has has)
        ];
      }

  by_fill : (cell : Cell) → FillsCell schema table row cell → list_any (overlaps cell) held ≡ false → IsStillFilled schema after table key held cell
  by_fill _ (at_place own is_own) free =
      let keys : Some key ≡ Some own = sym (valid.own_key table key row stands) ∙ is_own in
      let same : key ≡ own = cc in
      record {
        key = own;
        row = row;
        at = sym (leaves_free_cell schema rows cs (Row table own) free) ∙ ap (λ (k : Key). get rows (table, k)) (sym same) ∙ stands;
        fills = place_in_cells schema table row own is_own;
        place = inl (sym same);
      }
  by_fill _ (at_values i columns values at has) free =
      by_holder i columns values at has
      (sym (leaves_free_cell schema rows cs (Uniq table (suc i) values) free columns at) ∙ taken_by_row rows table columns values key row stands has)

  -- a cell that a row fills is held by changes, or filled after them
  pub kept_or_held : (cell : Cell) → Contains (cells_of schema table row) cell
      → (list_any (overlaps cell) held ≡ true) ⊎ IsStillFilled schema after table key held cell
  kept_or_held cell is =
      elim (cases_Bool (list_any (overlaps cell) held)) [
        | inl its ↦ inl its
        | inr free ↦ inr (by_fill cell (fills_of schema table row cell is) free)
      ]

-- ---- what inverses need

cell_itself : (cell : Cell) → overlaps cell cell ≡ true
cell_itself (Row table key) = both_true (table == table) (same_key key key) (same_number table) ((eq_by_cmp_equiv key_cmp_total).refl key)
cell_itself (Uniq table number values) =
    both_true (table == table) ((number == number) && same_key values values) (same_number table)
    (both_true (number == number) (same_key values values) (same_number number) ((eq_by_cmp_equiv key_cmp_total).refl values))
cell_itself (Whole table) = same_number table

or_second : (a b : Bool) → b ≡ true → (a || b) ≡ true
or_second true b e = refl
or_second false b e = e

pub contains_overlap : (cells : List Cell) (cell : Cell) → Contains cells cell → list_any (overlaps cell) cells ≡ true
contains_overlap [] cell is = absurd (omega (arith, is.1))
contains_overlap (other ∷ cells) cell is =
    elim (contains_first other cells cell is) [
      | inl same ↦ ap (λ b. b || list_any (overlaps cell) cells) (subst (λ (c : Cell). overlaps cell c ≡ true) (sym same) (cell_itself cell))
      | inr later ↦ or_second _ _ (contains_overlap cells cell later)
    ]

held_first : (cell : Cell) (cells more : List Cell) → list_any (overlaps cell) cells ≡ true → list_any (overlaps cell) (cells ++ more) ≡ true
held_first cell cells more is = list_any-append (overlaps cell) cells more ∙ ap (λ b. b || list_any (overlaps cell) more) is

held_later : (cell : Cell) (cells more : List Cell) → list_any (overlaps cell) more ≡ true → list_any (overlaps cell) (cells ++ more) ≡ true
held_later cell cells more is = list_any-append (overlaps cell) cells more ∙ or_second _ _ is

secured_later : (schema : Schema) (rows : Rows) (cells more : List Cell) (cell : Cell) → IsSecured schema rows more cell → IsSecured schema rows (cells ++ more) cell
secured_later schema rows cells more cell (inl is) = inl (held_later cell cells more is)
secured_later schema rows cells more cell (inr filled) =
    inr (record { key = filled.key; row = filled.row; at = filled.at; fills = filled.fills; its = held_later (Row (table_of cell) filled.key) cells more filled.its })

-- what stood where an inverse puts a row
stood_under : (edit : Option (Option Record)) (there : Option Record) (row : Record) → was_at edit there ≡ Some (Some row) → there ≡ Some row
stood_under None there row is = cc
stood_under (Some edit) there row is = cc

pub stood : (schema : Schema) (rows : Rows) (c : Change) (p : Place) (row : Record) → get (inverse schema rows c) p ≡ Some (Some row) → get rows p ≡ Some row
stood schema rows c p row is =
    stood_under (get (edits_of_outcome (outcome schema rows c)) p) (get rows p) row (sym (get_rows_under rows (edits_of_outcome (outcome schema rows c)) p) ∙ is)

module _ (schema : Schema) (rows : Rows) (valid : IsValid schema rows) (c : Change) (cs : List Change) where
  abbrev all_held : List Cell
  all_held = held_cells schema rows (c ∷ cs)

  -- of a row that was taken from its place, which the change holds
  of_row : (table : ℕ) (key : Key) (row : Record) → get rows (table, key) ≡ Some row → Contains (footprint schema rows c) (Row table key)
      → (cell : Cell) → Contains (Row table key ∷ cells_of schema table row) cell → IsSecured schema (serial schema rows (c ∷ cs)) all_held cell
  of_row table key row stands place cell is =
      let place_held : list_any (overlaps (Row table key)) all_held ≡ true =
      held_first (Row table key) (footprint schema rows c) (held_cells schema (effect schema rows c) cs) (contains_overlap (footprint schema rows c) (Row table key) place) in
      elim (contains_first (Row table key) (cells_of schema table row) cell is) [
        | inl same ↦ inl (subst (λ (d : Cell). list_any (overlaps d) all_held ≡ true) same place_held)
        | inr fills ↦
            elim (kept_or_held schema rows valid table key row stands (c ∷ cs) cell fills) [
              | inl its ↦ inl its
              | inr still ↦
                  let here : table_of cell ≡ table = in_cells_of schema table row cell fills in
                  inr (record {
                    key = still.key;
                    row = still.row;
                    at = subst (λ (t : ℕ). get (serial schema rows (c ∷ cs)) (t, still.key) ≡ Some still.row) (sym here) still.at;
                    fills = subst (λ (t : ℕ). Contains (cells_of schema t still.row) cell) (sym here) still.fills;
                    its = subst (λ (t : ℕ). list_any (overlaps (Row t still.key)) all_held ≡ true) (sym here)
                        (elim still.place [
                          | inl same ↦ subst (λ (k : Key). list_any (overlaps (Row table k)) all_held ≡ true) (sym same) place_held
                          | inr held ↦ held
                        ]);
                  })
            ]
      ]

  of_inverse : (i : Inverse) → edits_of i ≡ inverse schema rows c → KeepsCells (cells_altered i) (footprint schema rows c)
      → (cell : Cell) → Contains (cells_settled schema i) cell → IsSecured schema (serial schema rows (c ∷ cs)) all_held cell
  of_inverse (Take table key) same alters cell is = absurd (omega (arith, is.1))
  of_inverse (Put table key row) same alters cell is =
      of_row table key row
      (stood schema rows c (table, key) row
      (ap (λ edits. get edits (table, key)) (sym same) ∙ get_one_edit (table, key) (Some row) (table, key)
      ∙ ap (λ b. cond b (Some (Some row)) None) (same_place (table, key))))
      (alters (Row table key) (contains_here (Row table key) [])) cell is
  of_inverse (Replace table key row) same alters cell is =
      of_row table key row
      (stood schema rows c (table, key) row
      (ap (λ edits. get edits (table, key)) (sym same) ∙ get_one_edit (table, key) (Some row) (table, key)
      ∙ ap (λ b. cond b (Some (Some row)) None) (same_place (table, key))))
      (alters (Row table key) (contains_here (Row table key) [])) cell is
  of_inverse (Move table keys row) same alters cell is =
      of_row table keys.value.key row
      (stood schema rows c (table, keys.value.key) row
      (ap (λ edits. get edits (table, keys.value.key)) (sym same) ∙ get_edit (one_edit (table, keys.value.new_key) None) (table, keys.value.key) (Some row) (table, keys.value.key)
      ∙ ap (λ b. cond b (Some (Some row)) (get (one_edit (table, keys.value.new_key) None) (table, keys.value.key))) (same_place (table, keys.value.key))))
      (alters (Row table keys.value.key) (contains_here (Row table keys.value.key) (Row table keys.value.new_key ∷ []))) cell is
  of_inverse (Unwipe wiped) same alters cell is = absurd (omega (arith, is.1))

-- what the inverses of changes give up is held by the changes, or filled by a row whose place they hold
pub secured : (schema : Schema) (rows : Rows) (cs : List Change) (is : List Inverse) → IsValid schema rows → IsLogOf schema rows cs is
    → (cell : Cell) → Contains (all_settled schema is) cell → IsSecured schema (serial schema rows cs) (held_cells schema rows cs) cell
secured schema _ _ _ valid (no_change rows) cell is = absurd (omega (arith, is.1))
secured schema _ _ _ valid (with_done rows c cs i rest done same alters log) cell is =
    elim (Contains-append_cases (cells_settled schema i) (all_settled schema rest) cell is) [
      | inl here ↦ of_inverse schema rows valid c cs i same alters cell here
      | inr later ↦
          secured_later schema (serial schema rows (c ∷ cs)) (footprint schema rows c) (held_cells schema (effect schema rows c) cs) cell
          (secured schema (effect schema rows c) cs rest (effect_valid schema rows c valid) log cell later)
    ]
secured schema _ _ _ valid (with_skipped rows c cs rest skips log) cell is =
    secured_later schema (serial schema rows (c ∷ cs)) (footprint schema rows c) (held_cells schema (effect schema rows c) cs) cell
    (secured schema (effect schema rows c) cs rest (effect_valid schema rows c valid) log cell is)

-- what an inverse needs is among what it gives up
needed_of : (schema : Schema) (i : Inverse) (cell : Cell) → Contains (cells_needed schema i) cell → Contains (cells_settled schema i) cell
needed_of schema (Take table key) cell is = is
needed_of schema (Put table key row) cell is = contains_later (Row table key) (cells_of schema table row) cell is
needed_of schema (Replace table key row) cell is = contains_later (Row table key) (cells_of schema table row) cell is
needed_of schema (Move table keys row) cell is = contains_later (Row table keys.value.key) (cells_of schema table row) cell is
needed_of schema (Unwipe wiped) cell is = is

pub needed_settled : (schema : Schema) (is : List Inverse) (cell : Cell) → Contains (all_needed schema is) cell → Contains (all_settled schema is) cell
needed_settled schema [] cell is = is
needed_settled schema (i ∷ rest) cell is =
    elim (Contains-append_cases (cells_needed schema i) (all_needed schema rest) cell is) [
      | inl here ↦ Contains-append_left (cells_settled schema i) (all_settled schema rest) cell (needed_of schema i cell here)
      | inr later ↦ Contains-append_right (cells_settled schema i) (all_settled schema rest) cell (needed_settled schema rest cell later)
    ]

-- ---- a cell that two hold

-- a place or values, and no whole table
abbrev pub IsNarrow : Cell → Type 0
IsNarrow (Row table key) = Unit {0}
IsNarrow (Uniq table number values) = Unit {0}
IsNarrow (Whole table) = ⊥

-- what overlaps it is the cell itself, or the whole of its table
overlap_cases : (cell other : Cell) → IsNarrow cell → overlaps cell other ≡ true → (cell ≡ other) ⊎ (Whole (table_of cell) ≡ other)
overlap_cases (Row t k) (Row u l) narrow is =
    let same : k ≡ l = tells_apart key_cmp_exact k l (second_true _ _ is) in
    inl (ap (λ (n : ℕ). Row n k) (number_is t u (first_true _ _ is)) ∙ ap (Row u) same)
overlap_cases (Row t k) (Uniq u j w) narrow is = absurd (true≢false (sym is))
overlap_cases (Row t k) (Whole u) narrow is = inr (ap Whole (number_is t u is))
overlap_cases (Uniq t i v) (Row u l) narrow is = absurd (true≢false (sym is))
overlap_cases (Uniq t i v) (Uniq u j w) narrow is =
    let rest = second_true (t == u) ((i == j) && same_key v w) is in
    let same : v ≡ w = tells_apart key_cmp_exact v w (second_true (i == j) (same_key v w) rest) in
    inl (ap (λ (n : ℕ). Uniq n i v) (number_is t u (first_true (t == u) ((i == j) && same_key v w) is))
    ∙ ap (λ (n : ℕ). Uniq u n v) (number_is i j (first_true (i == j) (same_key v w) rest)) ∙ ap (Uniq u j) same)
overlap_cases (Uniq t i v) (Whole u) narrow is = inr (ap Whole (number_is t u is))
overlap_cases (Whole t) other narrow is = absurd narrow

whole_overlaps : (cell : Cell) → overlaps (Whole (table_of cell)) cell ≡ true
whole_overlaps cell = same_number (table_of cell)

-- two cells that overlap it overlap each other
meet : (cell other another : Cell) → IsNarrow cell → overlaps cell other ≡ true → overlaps cell another ≡ true → overlaps other another ≡ true
meet cell other another narrow first second =
    elim (overlap_cases cell other narrow first) [
      | inl same ↦ subst (λ (c : Cell). overlaps c another ≡ true) same second
      | inr whole ↦
          subst (λ (c : Cell). overlaps c another ≡ true) whole
          (elim (overlap_cases cell another narrow second) [
            | inl same ↦ subst (λ (c : Cell). overlaps (Whole (table_of cell)) c ≡ true) same (whole_overlaps cell)
            | inr whole_too ↦ subst (λ (c : Cell). overlaps (Whole (table_of cell)) c ≡ true) whole_too (same_number (table_of cell))
          ])
    ]

any_meets : (cell other : Cell) (others : List Cell) → IsNarrow cell → overlaps cell other ≡ true → list_any (overlaps cell) others ≡ true
    → list_any (overlaps other) others ≡ true
any_meets cell other [] narrow first second = absurd (true≢false (sym second))
any_meets cell other (another ∷ others) narrow first second =
    elim (cases_Bool (overlaps cell another)) [
      | inl is ↦ ap (λ b. b || list_any (overlaps other) others) (meet cell other another narrow first is)
      | inr not ↦ or_second _ _ (any_meets cell other others narrow first (ap (λ b. b || list_any (overlaps cell) others) (sym not) ∙ second))
    ]

-- a cell that is held by two is shared by them
pub both_held : (cell : Cell) (cells others : List Cell) → IsNarrow cell → list_any (overlaps cell) cells ≡ true
    → list_any (overlaps cell) others ≡ true → shares_cell cells others ≡ true
both_held cell [] others narrow first second = absurd (true≢false (sym first))
both_held cell (other ∷ cells) others narrow first second =
    elim (cases_Bool (overlaps cell other)) [
      | inl is ↦ ap (λ b. b || shares_cell cells others) (any_meets cell other others narrow is second)
      | inr not ↦ or_second _ _ (both_held cell cells others narrow (ap (λ b. b || list_any (overlaps cell) cells) (sym not) ∙ first) second)
    ]

fills_narrow : (schema : Schema) (table : ℕ) (row : Record) (cell : Cell) → FillsCell schema table row cell → IsNarrow cell
fills_narrow schema table row _ (at_place key own) = tt
fills_narrow schema table row _ (at_values i columns values at has) = tt

row_narrow : (schema : Schema) (table : ℕ) (key : Key) (row : Record) (cell : Cell) → Contains (Row table key ∷ cells_of schema table row) cell → IsNarrow cell
row_narrow schema table key row cell is =
    elim (contains_first (Row table key) (cells_of schema table row) cell is) [
      | inl same ↦ subst IsNarrow same tt
      | inr fills ↦ fills_narrow schema table row cell (fills_of schema table row cell fills)
    ]

pub settled_narrow : (schema : Schema) (is : List Inverse) (cell : Cell) → Contains (all_settled schema is) cell → IsNarrow cell
settled_narrow schema [] cell is = absurd (omega (arith, is.1))
settled_narrow schema (i ∷ rest) cell is =
    elim (Contains-append_cases (cells_settled schema i) (all_settled schema rest) cell is) [
      | inl here ↦ of i here
      | inr later ↦ settled_narrow schema rest cell later
    ]
  where
    of : (i : Inverse) → Contains (cells_settled schema i) cell → IsNarrow cell
    of (Take table key) here = absurd (omega (arith, here.1))
    of (Put table key row) here = row_narrow schema table key row cell here
    of (Replace table key row) here = row_narrow schema table key row cell here
    of (Move table keys row) here = row_narrow schema table keys.value.key row cell here
    of (Unwipe wiped) here = absurd (omega (arith, here.1))

-- ---- what one needs and another gives up

-- a row whose place is held fills the cell on the live rows too
pub filled_live : (schema : Schema) (live own : Rows) (held : List Cell) → StandsLive live own held → (cell : Cell) → IsFilledBy schema own held cell → IsFilled schema live cell
filled_live schema live own held stands cell f =
    record { key = f.key; row = f.row; at = stands (table_of cell) f.key f.its ∙ f.at; fills = f.fills }

pub filled_of_both : (schema : Schema) (live own other : Rows) (held others : List Cell) → StandsLive live own held → StandsLive live other others
    → shares_cell held others ≡ false → (cell : Cell) → IsNarrow cell → IsSecured schema own held cell → IsSecured schema other others cell → IsFilled schema live cell
filled_of_both schema live own other held others stands too apart cell narrow (inr filled) second = filled_live schema live own held stands cell filled
filled_of_both schema live own other held others stands too apart cell narrow (inl its) (inr filled) = filled_live schema live other others too cell filled
filled_of_both schema live own other held others stands too apart cell narrow (inl its) (inl theirs) =
    absurd (true≢false (sym (both_held cell held others narrow its theirs) ∙ apart))

-- what one transaction needs and another gives up is filled on the live rows
pub settled_filled : (schema : Schema) (rows live : Rows) (cs others : List Change) (is js : List Inverse) → IsValid schema rows
    → IsLogOf schema rows cs is → IsLogOf schema rows others js
    → StandsLive live (serial schema rows cs) (held_cells schema rows cs) → StandsLive live (serial schema rows others) (held_cells schema rows others)
    → shares_cell (held_cells schema rows cs) (held_cells schema rows others) ≡ false
    → (cell : Cell) → Contains (all_needed schema is) cell → Contains (all_settled schema js) cell → IsFilled schema live cell
settled_filled schema rows live cs others is js valid log log_too stands too apart cell needs settled =
    filled_of_both schema live (serial schema rows cs) (serial schema rows others) (held_cells schema rows cs) (held_cells schema rows others) stands too apart cell
    (settled_narrow schema js cell settled)
    (secured schema rows cs is valid log cell (needed_settled schema is cell needs))
    (secured schema rows others js valid log_too cell settled)

-- ---- the way back by a log

-- the rows once a log is undone
pub log_undone : (schema : Schema) (t : Content) (rows : Rows) (cs : List Change) (is : List Inverse) → IsLogOf schema rows cs is
    → (content_undone t is).rows ≡ all_back t.rows (inverses schema rows cs)
log_undone schema t _ _ _ (no_change rows) = refl
log_undone schema t _ _ _ (with_done rows c cs i is done same alters log) =
    ap (λ (r : Rows). back r (edits_of i)) (log_undone schema t (effect schema rows c) cs is log)
    ∙ ap (back (all_back t.rows (inverses schema (effect schema rows c) cs))) same
log_undone schema t _ _ _ (with_skipped rows c cs is skips log) =
    log_undone schema t (effect schema rows c) cs is log
    ∙ sym (overlay_empty (all_back t.rows (inverses schema (effect schema rows c) cs)))
    ∙ ap (back (all_back t.rows (inverses schema (effect schema rows c) cs))) (sym (inverse_skipped schema rows c skips))

-- it takes its changes back
pub log_back : (schema : Schema) (rows : Rows) (cs : List Change) (is : List Inverse) → IsLogOf schema rows cs is
    → all_back (serial schema rows cs) (map edits_of is) ≡ rows
log_back schema rows cs is log =
    let t : Content = record { schema = schema; rows = serial schema rows cs; room = [] } in
    sym (rows_undone t is) ∙ log_undone schema t rows cs is log ∙ all_back_serial schema rows cs

-- it is valid at each step, if the rows with the last changes undone are
pub log_valid : (schema : Schema) (t : Content) → t.schema ≡ schema → (rows : Rows) (cs : List Change) (is : List Inverse) → IsLogOf schema rows cs is
    → ((kept gone : List Change) → cs ≡ kept ++ gone → IsValid schema (all_back t.rows (inverses schema (serial schema rows kept) gone)))
    → AreValidBack t is
log_valid schema t schemas _ _ _ (no_change rows) valid = tt
log_valid schema t schemas _ _ _ (with_done rows c cs i is done same alters log) valid = (
  log_valid schema t schemas (effect schema rows c) cs is log (λ kept gone split. valid (c ∷ kept) gone (ap (λ (l : List Change). c ∷ l) split)),
  subst (λ (s : Schema). IsValid s (content_undone t (i ∷ is)).rows) (sym schemas)
      (subst (IsValid schema) (sym (log_undone schema t rows (c ∷ cs) (i ∷ is) (with_done rows c cs i is done same alters log))) (valid [] (c ∷ cs) refl)),
)
log_valid schema t schemas _ _ _ (with_skipped rows c cs is skips log) valid =
    log_valid schema t schemas (effect schema rows c) cs is log (λ kept gone split. valid (c ∷ kept) gone (ap (λ (l : List Change). c ∷ l) split))

-- what a log alters is held by its changes
pub log_altered : (schema : Schema) (rows : Rows) (cs : List Change) (is : List Inverse) → IsLogOf schema rows cs is
    → KeepsCells (all_altered is) (held_cells schema rows cs)
log_altered schema _ _ _ (no_change rows) cell is = is
log_altered schema _ _ _ (with_done rows c cs i is done same alters log) cell there =
    elim (Contains-append_cases (cells_altered i) (all_altered is) cell there) [
      | inl here ↦ Contains-append_left (footprint schema rows c) (held_cells schema (effect schema rows c) cs) cell (alters cell here)
      | inr later ↦
          Contains-append_right (footprint schema rows c) (held_cells schema (effect schema rows c) cs) cell
          (log_altered schema (effect schema rows c) cs is log cell later)
    ]
log_altered schema _ _ _ (with_skipped rows c cs is skips log) cell there =
    Contains-append_right (footprint schema rows c) (held_cells schema (effect schema rows c) cs) cell
    (log_altered schema (effect schema rows c) cs is log cell there)

-- ---- one more change

pub log_more_done : (schema : Schema) (rows : Rows) (cs : List Change) (is : List Inverse) (c : Change) (i : Inverse) → IsLogOf schema rows cs is
    → IsDone (outcome schema (serial schema rows cs) c) → edits_of i ≡ inverse schema (serial schema rows cs) c
    → KeepsCells (cells_altered i) (footprint schema (serial schema rows cs) c) → IsLogOf schema rows (cs ++ c ∷ []) (is ++ i ∷ [])
log_more_done schema _ _ _ c i (no_change rows) done same alters = with_done rows c [] i [] done same alters (no_change (effect schema rows c))
log_more_done schema _ _ _ c i (with_done rows d cs j is done_too is_same alters_too log) done same alters =
    with_done rows d (cs ++ c ∷ []) j (is ++ i ∷ []) done_too is_same alters_too
    (log_more_done schema (effect schema rows d) cs is c i log done same alters)
log_more_done schema _ _ _ c i (with_skipped rows d cs is skips log) done same alters =
    with_skipped rows d (cs ++ c ∷ []) (is ++ i ∷ []) skips (log_more_done schema (effect schema rows d) cs is c i log done same alters)

pub log_more_skipped : (schema : Schema) (rows : Rows) (cs : List Change) (is : List Inverse) (c : Change) → IsLogOf schema rows cs is
    → outcome schema (serial schema rows cs) c ≡ Skip → IsLogOf schema rows (cs ++ c ∷ []) is
log_more_skipped schema _ _ _ c (no_change rows) skips = with_skipped rows c [] [] skips (no_change (effect schema rows c))
log_more_skipped schema _ _ _ c (with_done rows d cs j is done_too is_same alters_too log) skips =
    with_done rows d (cs ++ c ∷ []) j is done_too is_same alters_too (log_more_skipped schema (effect schema rows d) cs is c log skips)
log_more_skipped schema _ _ _ c (with_skipped rows d cs is skips_too log) skips =
    with_skipped rows d (cs ++ c ∷ []) is skips_too (log_more_skipped schema (effect schema rows d) cs is c log skips)

-- ---- the last changes

-- the first change of a log, by cases
log_first : (schema : Schema) (rows : Rows) (c : Change) (cs : List Change) (all : List Inverse) → IsLogOf schema rows (c ∷ cs) all
    → (IsDone (outcome schema rows c) × ((i : Inverse) × (rest : List Inverse) × (all ≡ i ∷ rest) × IsLogOf schema (effect schema rows c) cs rest))
    ⊎ ((outcome schema rows c ≡ Skip) × IsLogOf schema (effect schema rows c) cs all)
log_first schema rows c cs _ (with_done _ _ _ i is done same alters log) = inl (done, (i, is, refl, log))
log_first schema rows c cs _ (with_skipped _ _ _ is skips log) = inr (skips, log)

not_both : (schema : Schema) (rows : Rows) (c : Change) → IsDone (outcome schema rows c) → outcome schema rows c ≡ Skip → ⊥
not_both schema rows c done skips = subst IsDone skips done

no_inverse : (schema : Schema) (rows : Rows) (is : List Inverse) → IsLogOf schema rows [] is → is ≡ []
no_inverse schema rows _ (no_change _) = refl

same_tails : (i j : Inverse) (is js : List Inverse) → i ∷ is ≡ j ∷ js → is ≡ js
same_tails i j is js e = cc

-- of a log that begins with that of the first changes, the rest is that of the others
pub log_rest : (schema : Schema) (rows : Rows) (kept gone : List Change) (front rest : List Inverse) → IsLogOf schema rows (kept ++ gone) (front ++ rest)
    → IsLogOf schema rows kept front → IsLogOf schema (serial schema rows kept) gone rest
log_rest schema rows [] gone front rest all first =
    subst (λ (is : List Inverse). IsLogOf schema rows gone (is ++ rest)) (no_inverse schema rows front first) all
log_rest schema rows (c ∷ kept) gone front rest all first =
    elim (log_first schema rows c (kept ++ gone) (front ++ rest) all) [
      | inl whole ↦
          elim (log_first schema rows c kept front first) [
            | inl part ↦
                let split : part.1.0 ∷ (part.1.1 ++ rest) ≡ whole.1.0 ∷ whole.1.1 = ap (λ (is : List Inverse). is ++ rest) (sym part.1.2) ∙ whole.1.2 in
                log_rest schema (effect schema rows c) kept gone part.1.1 rest
                (subst (IsLogOf schema (effect schema rows c) (kept ++ gone)) (sym (same_tails part.1.0 whole.1.0 (part.1.1 ++ rest) whole.1.1 split)) whole.1.3) part.1.3
            | inr part ↦ absurd (not_both schema rows c whole.0 part.0)
          ]
      | inr whole ↦
          elim (log_first schema rows c kept front first) [
            | inl part ↦ absurd (not_both schema rows c part.0 whole.0)
            | inr part ↦ log_rest schema (effect schema rows c) kept gone front rest whole.1 part.1
          ]
    ]

-- ---- past others

-- where the rows are the same in what the changes hold, the log takes them back there too
pub log_alike : (schema : Schema) (rows others : Rows) → IsValid schema rows → IsValid schema others → (cs : List Change) (is : List Inverse)
    → AreSame schema rows others (held_cells schema rows cs) → IsLogOf schema rows cs is → IsLogOf schema others cs is
log_alike schema _ others valid valid_too _ _ same (no_change rows) = no_change others
log_alike schema _ others valid valid_too _ _ same (with_done rows c cs i is done is_same alters log) =
    let here = each_of_first (SameAt schema rows others) (footprint schema rows c) (held_cells schema (effect schema rows c) cs) same in
    with_done others c cs i is (subst IsDone (same_outcome schema rows others valid valid_too c here) done) (is_same ∙ same_inverse schema rows others valid valid_too c here)
    (subst (λ (cells : List Cell). KeepsCells (cells_altered i) cells) (same_footprint schema rows others c here) alters)
    (log_alike schema (effect schema rows c) (effect schema others c) (effect_valid schema rows c valid) (effect_valid schema others c valid_too) cs is
    (each_so (SameAt schema rows others) (SameAt schema (effect schema rows c) (effect schema others c))
    (alike_after schema rows others valid valid_too c here) (held_cells schema (effect schema rows c) cs)
    (each_of_second (SameAt schema rows others) (footprint schema rows c) (held_cells schema (effect schema rows c) cs) same)) log)
log_alike schema _ others valid valid_too _ _ same (with_skipped rows c cs is skips log) =
    let here = each_of_first (SameAt schema rows others) (footprint schema rows c) (held_cells schema (effect schema rows c) cs) same in
    with_skipped others c cs is (sym (same_outcome schema rows others valid valid_too c here) ∙ skips)
    (log_alike schema (effect schema rows c) (effect schema others c) (effect_valid schema rows c valid) (effect_valid schema others c valid_too) cs is
    (each_so (SameAt schema rows others) (SameAt schema (effect schema rows c) (effect schema others c))
    (alike_after schema rows others valid valid_too c here) (held_cells schema (effect schema rows c) cs)
    (each_of_second (SameAt schema rows others) (footprint schema rows c) (held_cells schema (effect schema rows c) cs) same)) log)

-- a log takes its changes back past others that share no cell with them
pub log_past : (schema : Schema) (rows : Rows) → IsValid schema rows → (cs others : List Change) (is : List Inverse)
    → shares_cell (held_cells schema rows cs) (held_cells schema rows others) ≡ false → IsLogOf schema rows cs is
    → IsLogOf schema (serial schema rows others) cs is
log_past schema rows valid cs others is apart log =
    log_alike schema rows (serial schema rows others) valid (serial_valid schema rows others valid) cs is (same_past schema rows valid cs others apart) log

-- ---- fewer cells share none

free_at : (cell : Cell) (cells : List Cell) (other : Cell) → list_any (overlaps cell) cells ≡ false → Contains cells other → overlaps cell other ≡ false
free_at cell [] other free is = absurd (omega (arith, is.1))
free_at cell (first ∷ cells) other free is =
    elim (contains_first first cells other is) [
      | inl same ↦ subst (λ (c : Cell). overlaps cell c ≡ false) same (neither_first _ _ free)
      | inr later ↦ free_at cell cells other (neither_second _ _ free) later
    ]

free_of_fewer : (cell : Cell) (less cells : List Cell) → KeepsCells less cells → list_any (overlaps cell) cells ≡ false → list_any (overlaps cell) less ≡ false
free_of_fewer cell [] cells keeps free = refl
free_of_fewer cell (first ∷ less) cells keeps free =
    neither _ _ (free_at cell cells first free (keeps first (contains_here first less)))
    (free_of_fewer cell less cells (λ other is. keeps other (contains_later first less other is)) free)

shares_at : (cells others : List Cell) (cell : Cell) → shares_cell cells others ≡ false → Contains cells cell → list_any (overlaps cell) others ≡ false
shares_at [] others cell apart is = absurd (omega (arith, is.1))
shares_at (first ∷ cells) others cell apart is =
    elim (contains_first first cells cell is) [
      | inl same ↦ subst (λ (c : Cell). list_any (overlaps c) others ≡ false) same (neither_first _ _ apart)
      | inr later ↦ shares_at cells others cell (neither_second _ _ apart) later
    ]

pub apart_of_fewer : (less cells fewer others : List Cell) → KeepsCells less cells → KeepsCells fewer others → shares_cell cells others ≡ false
    → shares_cell less fewer ≡ false
apart_of_fewer [] cells fewer others keeps keeps_too apart = refl
apart_of_fewer (first ∷ less) cells fewer others keeps keeps_too apart =
    neither _ _
    (free_of_fewer first fewer others keeps_too (shares_at cells others first apart (keeps first (contains_here first less))))
    (apart_of_fewer less cells fewer others (λ other is. keeps other (contains_later first less other is)) keeps_too apart)

-- what two logs alter is apart where what their changes hold is
pub logs_apart : (schema : Schema) (rows : Rows) (cs others : List Change) (is js : List Inverse)
    → shares_cell (held_cells schema rows cs) (held_cells schema rows others) ≡ false → IsLogOf schema rows cs is → IsLogOf schema rows others js
    → shares_cell (all_altered is) (all_altered js) ≡ false
logs_apart schema rows cs others is js apart log log_too =
    apart_of_fewer (all_altered is) (held_cells schema rows cs) (all_altered js) (held_cells schema rows others)
    (log_altered schema rows cs is log) (log_altered schema rows others js log_too) apart
