-- A change leaves every cell outside its footprint.
--     same_at_both, same_through      the same in a cell, one way and the other, and through a third
--     in_whole_table      tables with the same rows have the same in each of their cells
--     leaves_free      a cell that none of the footprint overlaps has the same before and after the change
use Rattle.std.specs.Prelude.{◌≡◌, ℕ, zero, suc, ◌+◌, ◌==◌, Bool, true, false, cond, ◌&&◌, ◌||◌, List, [], ◌∷◌, ◌++◌, map, Option, Some, None, if◌then◌else◌, refl, slice_get}
use Rattle.std.proofs.Common.{sym, ◌∙◌, ap, subst, inl, inr, true≢false, arith}
use Rattle.std.specs.List.{list_any, AllByRecursion}
use Rattle.std.proofs.lemmas.Map.Views.{tells_apart}
use Rattle.std.specs.FinMap.{get, insert, remove}
use Rattle.std.specs.Cmp.{eq_by_cmp_equiv}
use Rattle.std.proofs.lemmas.Bool.{cases_Bool}
use Rattle.model.specs.ValidLemmas.{not_none}
use Rattle.model.specs.declared.key.Key.{Key}
use Rattle.model.specs.declared.row.Row.{Row as Record}
use Rattle.model.specs.declared.change.Change.{Change}
use Rattle.model.specs.declared.change.Change.TheVariants.{Wipe}
use Rattle.model.specs.declared.cell.Cell.{Cell}
use Rattle.model.specs.declared.cell.Cell.TheVariants.{Row, Uniq, Whole}
use Rattle.model.specs.Key.{key_cmp_total}
use Rattle.model.specs.ExactLemmas.{key_cmp_exact}
use Rattle.model.specs.Rows.{Place, Rows, Schema, keys_at, values_in, key_of, is_key, are_taken, is_place}
use Rattle.model.specs.Effect.{overlay, Outcome, edits_of, patch_row, outcome, effect}
use Rattle.model.specs.EditLemmas.{place_is, overlay_empty, get_insert_other, get_remove_other}
use Rattle.model.specs.TakenLemmas.{taken_by_row, row_of_taken, number_is, same_number, key_is}
use Rattle.model.specs.EffectLemmas.{is_named, get_effect_wipe}
use Rattle.model.specs.Cells.{table_of, overlaps, same_key, row_cell, unique_cell, unique_cells}
use Rattle.model.specs.Footprint.{both_have, moved_cell, moved_cells, new_place, replaced_cells, removed_cells, footprint}
use Rattle.model.specs.CellContents.{unique_key, SameAt}
use Rattle.model.specs.OverlapLemmas.{neither_first, neither_second, neither}
use Rattle.model.specs.TakenBesideLemmas.{same_answer, has_values, taken_insert, taken_without}
use Rattle.model.specs.OutcomeLemmas.{Shape, clashes, skips, puts, sets, removes, wipes, shape, after_put, after_set, after_remove}

-- ---- the same in a cell

pub same_at_itself : (schema : Schema) (rows : Rows) (cell : Cell) → SameAt schema rows rows cell
same_at_itself schema rows (Row table key) = refl
same_at_itself schema rows (Uniq table number values) = λ columns is. refl
same_at_itself schema rows (Whole table) = λ key. refl

pub same_at_back : (schema : Schema) (rows others : Rows) (cell : Cell) → SameAt schema rows others cell
    → SameAt schema others rows cell
same_at_back schema rows others (Row table key) s = sym s
same_at_back schema rows others (Uniq table number values) s = λ columns is. sym (s columns is)
same_at_back schema rows others (Whole table) s = λ key. sym (s key)

pub same_through : (schema : Schema) (rows middle others : Rows) (cell : Cell) → SameAt schema rows middle cell
    → SameAt schema middle others cell
    → SameAt schema rows others cell
same_through schema rows middle others (Row table key) s t = s ∙ t
same_through schema rows middle others (Uniq table number values) s t = λ columns is. s columns is ∙ t columns is
same_through schema rows middle others (Whole table) s t = λ key. s key ∙ t key

taken_too : (rows others : Rows) (table : ℕ) → ((key : Key) → get rows (table, key) ≡ get others (table, key))
    → (columns : List ℕ) (values : Key) → are_taken rows table columns values ≡ true
    → are_taken others table columns values ≡ true
taken_too rows others table alike columns values is =
    let t = row_of_taken rows table columns values is in
    taken_by_row others table columns values t.key t.row (sym (alike t.key) ∙ t.at) t.has

-- the same rows take the same values
pub taken_alike : (rows others : Rows) (table : ℕ) → ((key : Key) → get rows (table, key) ≡ get others (table, key))
    → (columns : List ℕ) (values : Key) → are_taken rows table columns values ≡ are_taken others table columns values
taken_alike rows others table alike columns values =
    same_answer _ _
    (taken_too rows others table alike columns values)
    (taken_too others rows table (λ key. sym (alike key)) columns values)

-- ---- what a cell that is free of a footprint is free of

-- another place of its table, or of another
other_place : (table other : ℕ) (key duplicate : Key) → overlaps (Row table key) (Row other duplicate) ≡ false
    → is_place (table, key) (other, duplicate) ≡ false
other_place table other key duplicate free =
    elim (cases_Bool (is_place (table, key) (other, duplicate))) [
      | inr apart ↦ apart
      | inl is ↦
          let same : ◌≡◌ {A = Place} (table, key) (other, duplicate) = place_is (table, key) (other, duplicate) is in
          let at : (table == other) ≡ true = ap (λ (p : Place). table == p.0) (sym same) ∙ same_number table in
          let key_too : same_key key duplicate ≡ true = ap (λ (p : Place). same_key key p.1) (sym same) ∙ (eq_by_cmp_equiv key_cmp_total).refl key in
          absurd (true≢false (sym (ap (λ b. b && same_key key duplicate) at ∙ key_too) ∙ free))
    ]

elsewhere : (table other : ℕ) (key duplicate : Key) → (table == other) ≡ false → is_place (table, key) (other, duplicate) ≡ false
elsewhere table other key duplicate apart = other_place table other key duplicate (ap (λ b. b && same_key key duplicate) apart)

-- ---- each cell of a list

-- it holds of each of these
abbrev pub Each : (Cell → Type 0) → List Cell → Type 0
Each P cells = AllByRecursion P cells

pub each_of_first : (P : Cell → Type 0) (cells more : List Cell) → Each P (cells ++ more) → Each P cells
each_of_first P [] more all = tt
each_of_first P (cell ∷ cells) more all = (all.0, each_of_first P cells more all.1)

pub each_of_second : (P : Cell → Type 0) (cells more : List Cell) → Each P (cells ++ more) → Each P more
each_of_second P [] more all = all
each_of_second P (cell ∷ cells) more all = each_of_second P cells more all.1

pub each_of_both : (P : Cell → Type 0) (cells more : List Cell) → Each P cells → Each P more → Each P (cells ++ more)
each_of_both P [] more all rest = rest
each_of_both P (cell ∷ cells) more all rest = (all.0, each_of_both P cells more all.1 rest)

-- the cell is free of each of these
abbrev pub FreeOf : Cell → List Cell → Type 0
FreeOf cell cells = Each (λ other. overlaps cell other ≡ false) cells

pub free_of : (cell : Cell) (cells : List Cell) → list_any (overlaps cell) cells ≡ false → FreeOf cell cells
free_of cell [] e = tt
free_of cell (other ∷ cells) e = (neither_first _ _ e, free_of cell cells (neither_second _ _ e))

-- the cell of a row's values in a unique key, among those of all
pub in_unique_cells : (P : Cell → Type 0) (table : ℕ) (row : Record) (uniques : List (List ℕ)) (first number i : ℕ) (columns : List ℕ)
    → number ≡ first + i → slice_get uniques i ≡ Some columns → Each P (unique_cells table row first uniques)
    → Each P (unique_cell table number (values_in columns row))
in_unique_cells P table row [] first number i columns is at all = absurd (not_none columns at)
in_unique_cells P table row (own ∷ uniques) first number zero columns is at all =
    let same : own ≡ columns = cc in
    let first_is : first ≡ number = omega (arith, is) in
    subst (λ (n : ℕ). Each P (unique_cell table n (values_in columns row))) first_is
    (subst (λ (c : List ℕ). Each P (unique_cell table first (values_in c row))) same (each_of_first P (unique_cell table first (values_in own row)) _ all))
in_unique_cells P table row (own ∷ uniques) first number (suc i) columns is at all =
    in_unique_cells P table row uniques (suc first) number i columns (omega (arith, is)) at
    (each_of_second P (unique_cell table first (values_in own row)) _ all)

-- those of what an update moves
pub in_moved_cells : (P : Cell → Type 0) (table : ℕ) (old new : Record) (uniques : List (List ℕ)) (first number i : ℕ) (columns : List ℕ)
    → number ≡ first + i → slice_get uniques i ≡ Some columns → Each P (moved_cells table old new first uniques)
    → Each P (moved_cell table number (values_in columns old) (values_in columns new))
in_moved_cells P table old new [] first number i columns is at all = absurd (not_none columns at)
in_moved_cells P table old new (own ∷ uniques) first number zero columns is at all =
    let same : own ≡ columns = cc in
    let first_is : first ≡ number = omega (arith, is) in
    subst (λ (n : ℕ). Each P (moved_cell table n (values_in columns old) (values_in columns new))) first_is
    (subst (λ (c : List ℕ). Each P (moved_cell table first (values_in c old) (values_in c new))) same
    (each_of_first P (moved_cell table first (values_in own old) (values_in own new)) _ all))
in_moved_cells P table old new (own ∷ uniques) first number (suc i) columns is at all =
    in_moved_cells P table old new uniques (suc first) number i columns (omega (arith, is)) at
    (each_of_second P (moved_cell table first (values_in own old) (values_in own new)) _ all)

-- ---- values that are not among the cells of a row

same_cell : (table number : ℕ) (values : Key) → overlaps (Uniq table number values) (Uniq table number values) ≡ true
same_cell table number values =
    ap (λ b. b && ((number == number) && same_key values values)) (same_number table)
    ∙ ap (λ b. b && same_key values values) (same_number number)
    ∙ (eq_by_cmp_equiv key_cmp_total).refl values

has_not_found : (table number : ℕ) (values : Key) (found : Option Key)
    → FreeOf (Uniq table number values) (unique_cell table number found) → is_key found values ≡ false
has_not_found table number values None free = refl
has_not_found table number values (Some own) free =
    elim (cases_Bool (is_key (Some own) values)) [
      | inr not ↦ not
      | inl is ↦
          let same : own ≡ values = tells_apart key_cmp_exact own values is in
          absurd (true≢false (sym (same_cell table number values) ∙ ap (λ (k : Key). overlaps (Uniq table number values) (Uniq table number k)) (sym same) ∙ free.0))
    ]

same_found : (table number : ℕ) (values : Key) (old new : Option Key)
    → FreeOf (Uniq table number values) (moved_cell table number old new) → is_key old values ≡ is_key new values
same_found table number values old new free =
    by_both (both_have old new) refl free
  where
    same_key_of : (found : Option Key) → both_have old found ≡ true → is_key old values ≡ is_key found values
    same_key_of None both = absurd (true≢false (sym both))
    same_key_of (Some own) both = ap (λ f. is_key f values) (key_is old own both)

    by_both : (b : Bool) → both_have old new ≡ b
        → FreeOf (Uniq table number values)
        (if b then [] else unique_cell table number old ++ unique_cell table number new)
        → is_key old values ≡ is_key new values
    by_both true both free = same_key_of new both
    by_both false both free =
        has_not_found table number values old
        (each_of_first _ (unique_cell table number old) (unique_cell table number new) free)
        ∙ sym (has_not_found table number values new (each_of_second _ (unique_cell table number old) (unique_cell table number new) free))

elsewhere_has_not : (at table : ℕ) (found : Bool) → (at == table) ≡ false → ((at == table) && found) ≡ false
elsewhere_has_not at table found e = ap (λ b. b && found) e

module _ (schema : Schema) (at table number : ℕ) (columns : List ℕ) (values : Key) (is_unique : unique_key schema table number ≡ Some columns) where
  -- the columns as those of the other table
  columns_at : (at == table) ≡ true → unique_key schema at number ≡ Some columns
  columns_at same = ap (λ n. unique_key schema n number) (number_is at table same) ∙ is_unique

  has_not_at : (row : Record) (n : ℕ) → n ≡ table → (number_of : ℕ) → unique_key schema at number_of ≡ Some columns
      → FreeOf (Uniq at number_of values) (unique_cells at row 1 (keys_at schema at).uniques)
      → is_key (values_in columns row) values ≡ false
  has_not_at row n e zero is free = absurd (not_none columns is)
  has_not_at row n e (suc i) is free =
      has_not_found at (suc i) values (values_in columns row)
      (in_unique_cells _ at row (keys_at schema at).uniques 1 (suc i) i columns (omega arith) is free)

  pub has_not : (row : Record)
      → FreeOf (Uniq table number values) (unique_cells at row 1 (keys_at schema at).uniques)
      → has_values at row table columns values ≡ false
  has_not row free =
      elim (cases_Bool (at == table)) [
        | inr apart ↦ elsewhere_has_not at table _ apart
        | inl same ↦
            let here : FreeOf (Uniq at number values) (unique_cells at row 1 (keys_at schema at).uniques) =
            subst (λ n. FreeOf (Uniq n number values) (unique_cells at row 1 (keys_at schema at).uniques)) (sym (number_is at table same)) free in
            ap (λ b. (at == table) && b) (has_not_at row table refl number (columns_at same) here)
            ∙ no_second (at == table)
      ]
    where
      no_second : (b : Bool) → (b && false) ≡ false
      no_second true = refl
      no_second false = refl

  same_at : (old new : Record) (number_of : ℕ) → unique_key schema at number_of ≡ Some columns
      → FreeOf (Uniq at number_of values) (moved_cells at old new 1 (keys_at schema at).uniques)
      → is_key (values_in columns old) values ≡ is_key (values_in columns new) values
  same_at old new zero is free = absurd (not_none columns is)
  same_at old new (suc i) is free =
      same_found at (suc i) values (values_in columns old) (values_in columns new)
      (in_moved_cells _ at old new (keys_at schema at).uniques 1 (suc i) i columns (omega arith) is free)

  -- what an update leaves where it is
  pub has_as_before : (old new : Record)
      → FreeOf (Uniq table number values) (moved_cells at old new 1 (keys_at schema at).uniques)
      → has_values at old table columns values ≡ has_values at new table columns values
  has_as_before old new free =
      elim (cases_Bool (at == table)) [
        | inr apart ↦ elsewhere_has_not at table _ apart ∙ sym (elsewhere_has_not at table _ apart)
        | inl same ↦
            let here : FreeOf (Uniq at number values) (moved_cells at old new 1 (keys_at schema at).uniques) =
            subst (λ n. FreeOf (Uniq n number values) (moved_cells at old new 1 (keys_at schema at).uniques)) (sym (number_is at table same)) free in
            ap (λ b. (at == table) && b) (same_at old new number (columns_at same) here)
      ]

-- ---- what each change leaves

pub or_false : (a b : Bool) → b ≡ false → (a || b) ≡ a
or_false true b e = refl
or_false false b e = e

module _ (schema : Schema) (rows : Rows) (table : ℕ) (key : Key) (row : Record) where
  insert_leaves : get rows (table, key) ≡ None → (cell : Cell) → overlaps cell (Row table key) ≡ false
      → FreeOf cell (unique_cells table row 1 (keys_at schema table).uniques)
      → SameAt schema rows (insert rows (table, key) row) cell
  insert_leaves free (Row t k) apart unique =
      sym (get_insert_other rows (table, key) row (t, k) (other_place t table k key apart))
  insert_leaves free (Uniq t number values) apart unique = λ columns is.
      sym (taken_insert rows table key row t columns values free ∙ or_false _ _ (has_not schema table t number columns values is row unique))
  insert_leaves free (Whole t) apart unique =
      λ k. sym (get_insert_other rows (table, key) row (t, k) (elsewhere t table k key apart))

  remove_leaves : get rows (table, key) ≡ Some row → (cell : Cell) → overlaps cell (Row table key) ≡ false
      → FreeOf cell (unique_cells table row 1 (keys_at schema table).uniques)
      → SameAt schema rows (remove rows (table, key)) cell
  remove_leaves stands (Row t k) apart unique =
      sym (get_remove_other rows (table, key) (t, k) (other_place t table k key apart))
  remove_leaves stands (Uniq t number values) apart unique = λ columns is.
      taken_without rows table key row stands t columns values
      ∙ or_false _ _ (has_not schema table t number columns values is row unique)
  remove_leaves stands (Whole t) apart unique =
      λ k. sym (get_remove_other rows (table, key) (t, k) (elsewhere t table k key apart))

  replace_leaves : (new : Key) (later : Record) → get rows (table, key) ≡ Some row
      → get (remove rows (table, key)) (table, new) ≡ None
      → (cell : Cell) → overlaps cell (Row table key) ≡ false → overlaps cell (Row table new) ≡ false
      → FreeOf cell (moved_cells table row later 1 (keys_at schema table).uniques)
      → SameAt schema rows (insert (remove rows (table, key)) (table, new) later) cell
  replace_leaves new later stands free (Row t k) apart beside unique =
      sym (get_insert_other (remove rows (table, key)) (table, new) later (t, k) (other_place t table k new beside)
      ∙ get_remove_other rows (table, key) (t, k) (other_place t table k key apart))
  replace_leaves new later stands free (Uniq t number values) apart beside unique = λ columns is.
      taken_without rows table key row stands t columns values
      ∙ ap (λ b. are_taken (remove rows (table, key)) t columns values || b)
      (has_as_before schema table t number columns values is row later unique)
      ∙ sym (taken_insert (remove rows (table, key)) table new later t columns values free)
  replace_leaves new later stands free (Whole t) apart beside unique = λ k.
      sym (get_insert_other (remove rows (table, key)) (table, new) later (t, k) (elsewhere t table k new beside)
      ∙ get_remove_other rows (table, key) (t, k) (elsewhere t table k key apart))

-- a cell that overlaps none of these whole tables lies in none of them
not_named : (cell : Cell) (tables : List ℕ) → FreeOf cell (map Whole tables) → is_named tables (table_of cell) ≡ false
not_named cell [] free = refl
not_named cell (table ∷ tables) free = neither _ _ (apart cell free.0) (not_named cell tables free.1)
  where
    apart : (other : Cell) → overlaps other (Whole table) ≡ false → (table_of other == table) ≡ false
    apart (Row t k) e = e
    apart (Uniq t i v) e = e
    apart (Whole t) e = e

module _ (schema : Schema) (rows : Rows) (tables : List ℕ) where
  pub left_by_wipe : (table : ℕ) → is_named tables table ≡ false → (key : Key)
      → get rows (table, key) ≡ get (effect schema rows (Wipe tables)) (table, key)
  left_by_wipe table not key =
      sym (get_effect_wipe schema rows tables (table, key) ∙ ap (λ b. cond b None (get rows (table, key))) not)

  wipe_leaves : (cell : Cell) → FreeOf cell (map Whole tables)
      → SameAt schema rows (effect schema rows (Wipe tables)) cell
  wipe_leaves (Row t k) free = left_by_wipe t (not_named (Row t k) tables free) k
  wipe_leaves (Uniq t number values) free = λ columns is.
      taken_alike rows (effect schema rows (Wipe tables)) t
      (left_by_wipe t (not_named (Uniq t number values) tables free)) columns values
  wipe_leaves (Whole t) free = left_by_wipe t (not_named (Whole t) tables free)

-- the new place of an update that is free of both
free_of_new : (cell : Cell) (table : ℕ) (key new : Key) → overlaps cell (Row table key) ≡ false
    → FreeOf cell (new_place table key (Some new))
    → overlaps cell (Row table new) ≡ false
free_of_new cell table key new apart free =
    by_key (is_key (Some new) key) refl free
  where
    by_key : (b : Bool) → is_key (Some new) key ≡ b → FreeOf cell (if b then [] else row_cell table (Some new))
        → overlaps cell (Row table new) ≡ false
    by_key true is free = ap (λ (k : Key). overlaps cell (Row table k)) (tells_apart key_cmp_exact new key is) ∙ apart
    by_key false is free = free.0

leaves_of_shape : (schema : Schema) (rows : Rows) (cell : Cell) (c : Change) (o : Outcome) → Shape schema rows c o
    → FreeOf cell (footprint schema rows c)
    → SameAt schema rows (overlay rows (edits_of o)) cell
unfolding footprint
leaves_of_shape schema rows cell _ _ (clashes c cause) free =
    subst (λ (r : Rows). SameAt schema rows r cell) (sym (overlay_empty rows)) (same_at_itself schema rows cell)
leaves_of_shape schema rows cell _ _ (skips c) free =
    subst (λ (r : Rows). SameAt schema rows r cell) (sym (overlay_empty rows)) (same_at_itself schema rows cell)
leaves_of_shape schema rows cell _ _ (puts table row key own free_place untaken) free =
    let here : FreeOf cell (row_cell table (Some key) ++ unique_cells table row 1 (keys_at schema table).uniques) =
    subst (λ (k : Option Key). FreeOf cell (row_cell table k ++ unique_cells table row 1 (keys_at schema table).uniques)) own free in
    subst (λ (r : Rows). SameAt schema rows r cell) (sym (after_put rows table key row))
    (insert_leaves schema rows table key row free_place cell here.0 here.1)
leaves_of_shape schema rows cell _ _ (sets table key patch old new stands own free_place untaken) free =
    let there : FreeOf cell (replaced_cells schema table key patch (Some old)) =
    subst (λ (r : Option Record). FreeOf cell (replaced_cells schema table key patch r)) stands free.1 in
    let moved : FreeOf cell (moved_cells table old (patch_row patch old) 1 (keys_at schema table).uniques) =
    each_of_second _ (new_place table key (key_of schema table (patch_row patch old))) _ there in
    let placed : FreeOf cell (new_place table key (Some new)) =
    subst (λ (k : Option Key). FreeOf cell (new_place table key k)) own (each_of_first _ (new_place table key (key_of schema table (patch_row patch old))) _ there) in
    subst (λ (r : Rows). SameAt schema rows r cell) (sym (after_set rows table key new (patch_row patch old)))
    (replace_leaves schema rows table key old new (patch_row patch old) stands free_place cell free.0 (free_of_new cell table key new free.0 placed) moved)
leaves_of_shape schema rows cell _ _ (removes table key old stands) free =
    let there : FreeOf cell (removed_cells schema table (Some old)) = subst (λ (r : Option Record). FreeOf cell (removed_cells schema table r)) stands free.1 in
    subst (λ (r : Rows). SameAt schema rows r cell) (sym (after_remove rows table key))
    (remove_leaves schema rows table key old stands cell free.0 there)
leaves_of_shape schema rows cell _ _ (wipes tables) free = wipe_leaves schema rows tables cell free

-- a cell that none of the footprint overlaps has the same before and after
pub leaves_free : (schema : Schema) (rows : Rows) (c : Change) (cell : Cell)
    → list_any (overlaps cell) (footprint schema rows c) ≡ false
    → SameAt schema rows (effect schema rows c) cell
leaves_free schema rows c cell free =
    leaves_of_shape schema rows cell c (outcome schema rows c) (shape schema rows c)
    (free_of cell (footprint schema rows c) free)
