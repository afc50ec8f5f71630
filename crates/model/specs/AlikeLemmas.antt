-- Where rows are the same in a change's footprint, the change does the same.
--     same_footprint, same_outcome, same_inverse      its footprint, its outcome and its inverse
--     footprint_by_looked_up      its footprint already where the row that it looks up is the same
--     alike_after      what was the same before it is the same after it
use Rattle.std.specs.Prelude.{◌≡◌, ℕ, suc, ◌==◌, Bool, true, false, cond, ◌&&◌, ◌||◌, List, [], ◌∷◌, ◌++◌, map, Option, Some, None, if◌then◌else◌, is_some, refl, slice_get, unwrap_or}
use Rattle.std.proofs.Common.{sym, ◌∙◌, ap, subst, inl, inr, true≢false, arith}
use Rattle.std.specs.FinMap as map_of
use Rattle.std.specs.FinMap.{get, insert, remove}
use Rattle.std.proofs.lemmas.Bool.{cases_Bool}
use Rattle.std.proofs.lemmas.Map.Views.{tells_apart}
use Rattle.model.specs.TakenLemmas.{number_is, first_true, second_true, same_number, key_is}
use Rattle.model.specs.declared.key.Key.{Key}
use Rattle.model.specs.declared.row.Row.{Row as Record}
use Rattle.model.specs.declared.change.Change.{Change}
use Rattle.model.specs.declared.change.Change.TheVariants.{Put, Set, Remove, Wipe}
use Rattle.model.specs.declared.patch.ColumnPatch.{ColumnPatch}
use Rattle.model.specs.declared.cell.Cell.{Cell}
use Rattle.model.specs.declared.cell.Cell.TheVariants.{Row, Uniq, Whole}
use Rattle.model.specs.ExactLemmas.{key_cmp_exact}
use Rattle.model.specs.Rows.{Place, Rows, Schema, keys_at, values_in, key_of, is_key, are_taken, IsValid, is_place}
use Rattle.model.specs.Effect.{Edits, overlay, rows_under, one_edit, Outcome, Done, Clashes, Unique, are_taken_unless_null, first_taken, unless_taken, row_outcome_at, row_outcome, patch_row, set_outcome, remove_outcome, wipe_edits, outcome, edits_of, effect, inverse}
use Rattle.model.specs.EditLemmas.{same_edits, get_overlay, overlay_empty, get_remove, rows_under_none, rows_under_one, rows_under_two}
use Rattle.model.specs.EffectLemmas.{is_named, cleared_row, row_before_wipe, get_wiped, get_effect_wipe, get_inverse_wipe, not_cleared}
use Rattle.model.specs.Cells.{row_cell, unique_cell}
use Rattle.model.specs.Footprint.{moved_cell, new_place, replaced_cells, removed_cells, looked_up, footprint}
use Rattle.model.specs.CellContents.{unique_key, SameAt, AreSame}
use Rattle.model.specs.TakenBesideLemmas.{has_values, taken_insert, taken_without, untaken_without}
use Rattle.model.specs.OutcomeLemmas.{Shape, clashes, skips, puts, sets, removes, wipes, shape, after_put, after_set, after_remove}
use Rattle.model.specs.FrameLemmas.{taken_alike, each_of_first, each_of_second, in_unique_cells, in_moved_cells, left_by_wipe, or_false}

module _ (schema : Schema) (rows others : Rows) where
  -- ---- the footprint

  -- it depends on the looked-up row alone
  pub footprint_by_looked_up : (c : Change) → AreSame schema rows others (looked_up c)
      → footprint schema rows c ≡ footprint schema others c
  unfolding footprint
  footprint_by_looked_up (Put table row) same = refl
  footprint_by_looked_up (Set table key patch) same =
      ap (λ (r : Option Record). Row table key ∷ replaced_cells schema table key patch r) same.0
  footprint_by_looked_up (Remove table key) same =
      ap (λ (r : Option Record). Row table key ∷ removed_cells schema table r) same.0
  footprint_by_looked_up (Wipe tables) same = refl

  -- whose cell is in it
  same_looked_up : (c : Change) → AreSame schema rows others (footprint schema rows c) → AreSame schema rows others (looked_up c)
  unfolding footprint
  same_looked_up (Put table row) same = tt
  same_looked_up (Set table key patch) same = (same.0, tt)
  same_looked_up (Remove table key) same = (same.0, tt)
  same_looked_up (Wipe tables) same = tt

  pub same_footprint : (c : Change) → AreSame schema rows others (footprint schema rows c)
      → footprint schema rows c ≡ footprint schema others c
  same_footprint c same = footprint_by_looked_up c (same_looked_up c same)

  -- ---- a row that is placed

  same_is_taken : (table number : ℕ) (columns : List ℕ) → unique_key schema table number ≡ Some columns
      → (found : Option Key)
      → AreSame schema rows others (unique_cell table number found)
      → are_taken_unless_null rows table columns found ≡ are_taken_unless_null others table columns found
  same_is_taken table number columns is None same = refl
  same_is_taken table number columns is (Some values) same = same.0 columns is

same_first : (rows others : Rows) (table : ℕ) (row : Record) (number : ℕ) (uniques : List (List ℕ))
    → ((i : ℕ) (columns : List ℕ) → slice_get uniques i ≡ Some columns
    → are_taken_unless_null rows table columns (values_in columns row) ≡ are_taken_unless_null others table columns (values_in columns row))
    → first_taken rows table row number uniques ≡ first_taken others table row number uniques
same_first rows others table row number [] same = refl
same_first rows others table row number (columns ∷ uniques) same =
    ap (λ b. if b then Some number else first_taken rows table row (suc number) uniques) (same 0 columns refl)
    ∙ ap (λ least. if are_taken_unless_null others table columns (values_in columns row) then Some number else least)
    (same_first rows others table row (suc number) uniques (λ i own at. same (suc i) own at))

same_placed : (schema : Schema) (rows others : Rows) (edits : Edits) (table : ℕ) (row : Record)
    → ((key : Key) → key_of schema table row ≡ Some key → get rows (table, key) ≡ get others (table, key))
    → first_taken rows table row 1 (keys_at schema table).uniques ≡ first_taken others table row 1
    (keys_at schema table).uniques
    → row_outcome schema rows edits table row ≡ row_outcome schema others edits table row
same_placed schema rows others edits table row places firsts =
    by_key (key_of schema table row) refl
  where
    by_key : (found : Option Key) → key_of schema table row ≡ found
        → row_outcome_at schema rows edits table row found ≡ row_outcome_at schema others edits table row found
    by_key None own = refl
    by_key (Some key) own =
        ap (λ (there : Option Record). if is_some there then Clashes (Unique table 0)
        else unless_taken table (first_taken rows table row 1 (keys_at schema table).uniques)
        (insert edits (table, key) (Some row))) (places key own)
        ∙ ap (λ least. if is_some (get others (table, key)) then Clashes (Unique table 0)
        else unless_taken table least (insert edits (table, key) (Some row))) firsts

-- ---- a row that replaces another

module _ (schema : Schema) (rows others : Rows) (table : ℕ) (key : Key) (old : Record) (stands : get rows (table, key) ≡ Some old) (stands_too : get others (table, key) ≡ Some old) where
  -- what stands at the new place
  same_new : (new : Key) → AreSame schema rows others (new_place table key (Some new))
      → get rows (table, new) ≡ get others (table, new)
  same_new new same =
      by_key (is_key (Some new) key) refl same
    where
      by_key : (b : Bool) → is_key (Some new) key ≡ b
          → AreSame schema rows others (if b then [] else row_cell table (Some new))
          → get rows (table, new) ≡ get others (table, new)
      by_key true is same =
          let new_is : new ≡ key = tells_apart key_cmp_exact new key is in
          ap (λ (k : Key). get rows (table, k)) new_is ∙ stands ∙ sym stands_too
          ∙ ap (λ (k : Key). get others (table, k)) (sym new_is)
      by_key false is same = same.0

  -- once the old row is gone
  same_new_without : (new : Key) → AreSame schema rows others (new_place table key (Some new))
      → get (remove rows (table, key)) (table, new) ≡ get (remove others (table, key)) (table, new)
  same_new_without new same =
      get_remove rows (table, key) (table, new)
      ∙ ap (cond (is_place (table, new) (table, key)) None) (same_new new same)
      ∙ sym (get_remove others (table, key) (table, new))

module _ (schema : Schema) (rows others : Rows) (valid : IsValid schema rows) (valid_too : IsValid schema others)
    (table : ℕ) (key : Key) (old : Record) (stands : get rows (table, key) ≡ Some old) (stands_too : get others (table, key) ≡ Some old) where
  has_not_old : (columns : List ℕ) (values : Key) → is_key (values_in columns old) values ≡ false
      → has_values table old table columns values ≡ false
  has_not_old columns values not = ap (λ b. b && is_key (values_in columns old) values) (same_number table) ∙ not

  -- the values that the new row takes, once the old row is gone
  same_taken_without : (number : ℕ) (columns : List ℕ) → unique_key schema table number ≡ Some columns
      → (new : Option Key)
      → AreSame schema rows others (moved_cell table number (values_in columns old) new)
      → are_taken_unless_null (remove rows (table, key)) table columns new ≡ are_taken_unless_null (remove others (table, key)) table columns new
  same_taken_without number columns is None same = refl
  same_taken_without number columns is (Some values) same =
      by_both (is_key (values_in columns old) values) refl same
    where
      by_both : (b : Bool) → is_key (values_in columns old) values ≡ b
          → AreSame schema rows others
          (if b then [] else unique_cell table number (values_in columns old) ++ unique_cell table number (Some values))
          → are_taken (remove rows (table, key)) table columns values ≡ are_taken
          (remove others (table, key)) table columns values
      by_both true both same =
          let has : values_in columns old ≡ Some values = key_is (values_in columns old) values both in
          untaken_without schema rows valid table key old stands number columns values is has
          ∙ sym (untaken_without schema others valid_too table key old stands_too number columns values is has)
      by_both false both same =
          sym (taken_without rows table key old stands table columns values ∙ or_false _ _ (has_not_old columns values both))
          ∙ (each_of_second (SameAt schema rows others) (unique_cell table number (values_in columns old)) (unique_cell table number (Some values)) same).0 columns is
          ∙ taken_without others table key old stands_too table columns values
          ∙ or_false _ _ (has_not_old columns values both)

  same_replaced : (patch : List ColumnPatch)
      → AreSame schema rows others (replaced_cells schema table key patch (Some old))
      → set_outcome schema rows (table, key) patch (Some old) ≡ set_outcome schema others (table, key) patch (Some old)
  same_replaced patch same =
      same_placed schema (remove rows (table, key)) (remove others (table, key)) (one_edit (table, key) None) table
      (patch_row patch old)
      (λ new own. same_new_without schema rows others table key old stands stands_too new
      (subst (λ (k : Option Key). AreSame schema rows others (new_place table key k)) own
      (each_of_first (SameAt schema rows others) (new_place table key (key_of schema table (patch_row patch old))) _ same)))
      (same_first (remove rows (table, key)) (remove others (table, key)) table (patch_row patch old) 1 (keys_at schema table).uniques
      (λ i columns at. same_taken_without (suc i) columns at (values_in columns (patch_row patch old))
      (in_moved_cells (SameAt schema rows others) table old (patch_row patch old) (keys_at schema table).uniques 1 (suc i) i columns (omega arith) at
      (each_of_second (SameAt schema rows others) (new_place table key (key_of schema table (patch_row patch old))) _ same))))

  -- what is taken once the row is gone
  same_without : (t number : ℕ) (columns : List ℕ) (values : Key) → unique_key schema t number ≡ Some columns
      → are_taken rows t columns values ≡ are_taken others t columns values
      → are_taken (remove rows (table, key)) t columns values ≡ are_taken (remove others (table, key)) t columns values
  same_without t number columns values is same =
      elim (cases_Bool (has_values table old t columns values)) [
        | inr not ↦
            sym (taken_without rows table key old stands t columns values ∙ or_false _ _ not)
            ∙ same ∙ taken_without others table key old stands_too t columns values ∙ or_false _ _ not
        | inl has ↦
            let at : table ≡ t = number_is table t (first_true _ _ has) in
            let found : values_in columns old ≡ Some values = key_is (values_in columns old) values (second_true _ _ has) in
            let is_here : unique_key schema table number ≡ Some columns = ap (λ n. unique_key schema n number) at ∙ is in
            ap (λ n. are_taken (remove rows (table, key)) n columns values) (sym at)
            ∙ untaken_without schema rows valid table key old stands number columns values is_here found
            ∙ sym (untaken_without schema others valid_too table key old stands_too number columns values is_here found)
            ∙ ap (λ n. are_taken (remove others (table, key)) n columns values) at
      ]

-- ---- a wipe

-- rows of a table that is wiped
same_named : (schema : Schema) (rows others : Rows) (tables : List ℕ) (table : ℕ) (key : Key)
    → AreSame schema rows others (map Whole tables)
    → is_named tables table ≡ true → get rows (table, key) ≡ get others (table, key)
same_named schema rows others [] table key same is = absurd (true≢false (sym is))
same_named schema rows others (own ∷ tables) table key same is =
    elim (cases_Bool (table == own)) [
      | inl at ↦ ap (λ n. get rows (n, key)) (number_is table own at) ∙ same.0 key ∙ ap (λ n. get others (n, key)) (sym (number_is table own at))
      | inr apart ↦ same_named schema rows others tables table key same.1 (ap (λ b. b || is_named tables table) (sym apart) ∙ is)
    ]

same_where_named : {X : Type 0} (f : Bool → Option Record → X) (named : Bool) (row other : Option Record)
    → (named ≡ true → row ≡ other)
    → ((r s : Option Record) → f false r ≡ f false s) → f named row ≡ f named other
same_where_named f true row other same beside = ap (f true) (same refl)
same_where_named f false row other same beside = beside row other

not_standing : (row : Option Record) → row_before_wipe false row ≡ None
not_standing None = refl
not_standing (Some row) = refl

module _ (schema : Schema) (rows others : Rows) (tables : List ℕ) (same : AreSame schema rows others (map Whole tables)) where
  same_wiped : wipe_edits rows tables ≡ wipe_edits others tables
  same_wiped = same_edits _ _ (λ p.
      get_wiped rows tables p
      ∙ same_where_named cleared_row (is_named tables p.0) (get rows p) (get others p)
      (λ is. same_named schema rows others tables p.0 p.1 same is) (λ r s. not_cleared r ∙ sym (not_cleared s))
      ∙ sym (get_wiped others tables p))

  same_inverse_wipe : inverse schema rows (Wipe tables) ≡ inverse schema others (Wipe tables)
  same_inverse_wipe = same_edits _ _ (λ p.
      get_inverse_wipe schema rows tables p
      ∙ same_where_named row_before_wipe (is_named tables p.0) (get rows p) (get others p)
      (λ is. same_named schema rows others tables p.0 p.1 same is) (λ r s. not_standing r ∙ sym (not_standing s))
      ∙ sym (get_inverse_wipe schema others tables p))

-- ---- outcome, inverse, and what is the same after

module _ (schema : Schema) (rows others : Rows) (valid : IsValid schema rows) (valid_too : IsValid schema others) where
  replaced_alike : (table : ℕ) (key : Key) (patch : List ColumnPatch) (old other : Option Record)
      → get rows (table, key) ≡ old → old ≡ other
      → get others (table, key) ≡ other → AreSame schema rows others (replaced_cells schema table key patch old)
      → set_outcome schema rows (table, key) patch old ≡ set_outcome schema others (table, key) patch other
  replaced_alike table key patch None None stands is stands_too same = refl
  replaced_alike table key patch None (Some other) stands is stands_too same = cc
  replaced_alike table key patch (Some old) None stands is stands_too same = cc
  replaced_alike table key patch (Some old) (Some other) stands is stands_too same =
      same_replaced schema rows others valid valid_too table key old stands (stands_too ∙ sym is) patch same
      ∙ ap (set_outcome schema others (table, key) patch) is

  pub same_outcome : (c : Change) → AreSame schema rows others (footprint schema rows c)
      → outcome schema rows c ≡ outcome schema others c
  unfolding footprint
  same_outcome (Put table row) same =
      same_placed schema rows others map_of.empty table row
      (λ key own. (subst (λ (k : Option Key). AreSame schema rows others (row_cell table k)) own
      (each_of_first (SameAt schema rows others) (row_cell table (key_of schema table row)) _ same)).0)
      (same_first rows others table row 1 (keys_at schema table).uniques
      (λ i columns at. same_is_taken schema rows others table (suc i) columns at (values_in columns row)
      (in_unique_cells (SameAt schema rows others) table row (keys_at schema table).uniques 1 (suc i) i columns (omega arith) at
      (each_of_second (SameAt schema rows others) (row_cell table (key_of schema table row)) _ same))))
  same_outcome (Set table key patch) same =
      replaced_alike table key patch (get rows (table, key)) (get others (table, key)) refl same.0 refl same.1
  same_outcome (Remove table key) same = ap (remove_outcome (table, key)) same.0
  same_outcome (Wipe tables) same = ap Done (same_wiped schema rows others tables same)

  inverse_alike : (c : Change) (o : Outcome) → Shape schema rows c o
      → AreSame schema rows others (footprint schema rows c)
      → rows_under rows (edits_of o) ≡ rows_under others (edits_of o)
  unfolding footprint
  inverse_alike _ _ (clashes c cause) same = rows_under_none rows ∙ sym (rows_under_none others)
  inverse_alike _ _ (skips c) same = rows_under_none rows ∙ sym (rows_under_none others)
  inverse_alike _ _ (puts table row key own free untaken) same =
      let there : AreSame schema rows others (row_cell table (Some key)) =
      subst (λ (k : Option Key). AreSame schema rows others (row_cell table k)) own (each_of_first (SameAt schema rows others) (row_cell table (key_of schema table row)) _ same) in
      rows_under_one rows (table, key) (Some row) ∙ ap (one_edit (table, key)) there.0
      ∙ sym (rows_under_one others (table, key) (Some row))
  inverse_alike _ _ (sets table key patch old new stands own free untaken) same =
      let cells : AreSame schema rows others (replaced_cells schema table key patch (Some old)) =
      subst (λ (r : Option Record). AreSame schema rows others (replaced_cells schema table key patch r)) stands same.1 in
      let there : AreSame schema rows others (new_place table key (Some new)) =
      subst (λ (k : Option Key). AreSame schema rows others (new_place table key k)) own
      (each_of_first (SameAt schema rows others) (new_place table key (key_of schema table (patch_row patch old))) _ cells) in
      rows_under_two rows (table, key) (table, new) None (Some (patch_row patch old))
      ∙ ap (λ (r : Option Record). insert (one_edit (table, key) r) (table, new) (get rows (table, new))) same.0
      ∙ ap (insert (one_edit (table, key) (get others (table, key))) (table, new))
      (same_new schema rows others table key old stands (sym same.0 ∙ stands) new there)
      ∙ sym (rows_under_two others (table, key) (table, new) None (Some (patch_row patch old)))
  inverse_alike _ _ (removes table key old stands) same =
      rows_under_one rows (table, key) None ∙ ap (one_edit (table, key)) same.0 ∙ sym (rows_under_one others (table, key) None)
  inverse_alike _ _ (wipes tables) same =
      same_inverse_wipe schema rows others tables same
      ∙ ap (rows_under others) (sym (same_wiped schema rows others tables same))

  pub same_inverse : (c : Change) → AreSame schema rows others (footprint schema rows c)
      → inverse schema rows c ≡ inverse schema others c
  same_inverse c same =
      inverse_alike c (outcome schema rows c) (shape schema rows c) same
      ∙ ap (λ o. rows_under others (edits_of o)) (same_outcome c same)

  -- the same values are taken after it
  taken_after : (c : Change) (o : Outcome) → Shape schema rows c o
      → AreSame schema rows others (footprint schema rows c)
      → (t number : ℕ) (columns : List ℕ) (values : Key) → unique_key schema t number ≡ Some columns
      → are_taken rows t columns values ≡ are_taken others t columns values
      → are_taken (overlay rows (edits_of o)) t columns values ≡ are_taken (overlay others (edits_of o)) t columns values
  unfolding footprint
  taken_after _ _ (clashes c cause) same t number columns values is before =
      ap (λ (r : Rows). are_taken r t columns values) (overlay_empty rows) ∙ before
      ∙ ap (λ (r : Rows). are_taken r t columns values) (sym (overlay_empty others))
  taken_after _ _ (skips c) same t number columns values is before =
      ap (λ (r : Rows). are_taken r t columns values) (overlay_empty rows) ∙ before
      ∙ ap (λ (r : Rows). are_taken r t columns values) (sym (overlay_empty others))
  taken_after _ _ (puts table row key own free untaken) same t number columns values is before =
      let there : AreSame schema rows others (row_cell table (Some key)) =
      subst (λ (k : Option Key). AreSame schema rows others (row_cell table k)) own (each_of_first (SameAt schema rows others) (row_cell table (key_of schema table row)) _ same) in
      ap (λ (r : Rows). are_taken r t columns values) (after_put rows table key row)
      ∙ taken_insert rows table key row t columns values free
      ∙ ap (λ b. b || has_values table row t columns values) before
      ∙ sym (taken_insert others table key row t columns values (sym there.0 ∙ free))
      ∙ ap (λ (r : Rows). are_taken r t columns values) (sym (after_put others table key row))
  taken_after _ _ (sets table key patch old new stands own free untaken) same t number columns values is before =
      let stands_too : get others (table, key) ≡ Some old = sym same.0 ∙ stands in
      let cells : AreSame schema rows others (replaced_cells schema table key patch (Some old)) =
      subst (λ (r : Option Record). AreSame schema rows others (replaced_cells schema table key patch r)) stands same.1 in
      let there : AreSame schema rows others (new_place table key (Some new)) =
      subst (λ (k : Option Key). AreSame schema rows others (new_place table key k)) own
      (each_of_first (SameAt schema rows others) (new_place table key (key_of schema table (patch_row patch old))) _ cells) in
      ap (λ (r : Rows). are_taken r t columns values) (after_set rows table key new (patch_row patch old))
      ∙ taken_insert (remove rows (table, key)) table new (patch_row patch old) t columns values free
      ∙ ap (λ b. b || has_values table (patch_row patch old) t columns values)
      (same_without schema rows others valid valid_too table key old stands stands_too t number columns values is before)
      ∙ sym (taken_insert (remove others (table, key)) table new (patch_row patch old) t columns values
      (sym (same_new_without schema rows others table key old stands stands_too new there) ∙ free))
      ∙ ap (λ (r : Rows). are_taken r t columns values) (sym (after_set others table key new (patch_row patch old)))
  taken_after _ _ (removes table key old stands) same t number columns values is before =
      ap (λ (r : Rows). are_taken r t columns values) (after_remove rows table key)
      ∙ same_without schema rows others valid valid_too table key old stands
      (sym same.0 ∙ stands) t number columns values is before
      ∙ ap (λ (r : Rows). are_taken r t columns values) (sym (after_remove others table key))
  taken_after _ _ (wipes tables) same t number columns values is before =
      elim (cases_Bool (is_named tables t)) [
        | inl named ↦
            taken_alike (effect schema rows (Wipe tables)) (effect schema others (Wipe tables)) t
            (λ key. get_effect_wipe schema rows tables (t, key) ∙ ap (λ b. cond b None (get rows (t, key))) named
            ∙ sym (get_effect_wipe schema others tables (t, key) ∙ ap (λ b. cond b None (get others (t, key))) named)) columns values
            ∙ ap (λ edits. are_taken (overlay others edits) t columns values)
            (sym (same_wiped schema rows others tables same))
        | inr not ↦
            sym (taken_alike rows (effect schema rows (Wipe tables)) t (left_by_wipe schema rows tables t not) columns values)
            ∙ before
            ∙ taken_alike others (effect schema others (Wipe tables)) t
            (left_by_wipe schema others tables t not) columns values
            ∙ ap (λ edits. are_taken (overlay others edits) t columns values)
            (sym (same_wiped schema rows others tables same))
      ]

  row_after : (c : Change) → AreSame schema rows others (footprint schema rows c) → (p : Place)
      → get rows p ≡ get others p
      → get (effect schema rows c) p ≡ get (effect schema others c) p
  row_after c same p before =
      get_overlay rows (edits_of (outcome schema rows c)) p
      ∙ ap (unwrap_or (get (edits_of (outcome schema rows c)) p)) before
      ∙ ap (λ o. unwrap_or (get (edits_of o) p) (get others p)) (same_outcome c same)
      ∙ sym (get_overlay others (edits_of (outcome schema others c)) p)

  pub alike_after : (c : Change) → AreSame schema rows others (footprint schema rows c) → (cell : Cell)
      → SameAt schema rows others cell
      → SameAt schema (effect schema rows c) (effect schema others c) cell
  alike_after c same (Row table key) before = row_after c same (table, key) before
  alike_after c same (Uniq table number values) before = λ columns is.
      taken_after c (outcome schema rows c) (shape schema rows c) same table number columns values is
      (before columns is)
      ∙ ap (λ o. are_taken (overlay others (edits_of o)) table columns values) (same_outcome c same)
  alike_after c same (Whole table) before = λ key. row_after c same (table, key) (before key)
