-- The committed rows where nobody holds a cell, and which changes meet a table as a whole.
--     free_by_cells, free_by_first, free_in_table      no cell of a list overlaps a place
--     unheld_row      the live row at such a place is the committed one
--     wipe_of, named_by      what meets a whole table is a wipe, and names it
use Rattle.std.proofs.Common.{◌≡◌, ℕ, suc, ◌==◌, ◌&&◌, ◌||◌, ◌⊎◌, Bool, true, false, List, [], ◌∷◌, ◌++◌, map, Option, Some, None, refl, sym, ap, subst, ◌∙◌, arith, inl, inr}
use Rattle.std.specs.Prelude.{if◌then◌else◌}
use Rattle.std.specs.List.{Contains, list_any}
use Rattle.std.specs.FinMap.{get}
use Rattle.std.proofs.lemmas.Bool.{cases_Bool, eq-eqb, eqb-true}
use Rattle.std.proofs.lemmas.List.Elements.{Contains-append_cases}
use Rattle.std.proofs.lemmas.Map.Views.{tells_apart}
use Rattle.model.specs.declared.key.Key.{Key}
use Rattle.model.specs.declared.row.Row.{Row as Record}
use Rattle.model.specs.declared.change.Change.{Change}
use Rattle.model.specs.declared.change.Change.TheVariants.{Put, Set, Remove, Wipe}
use Rattle.model.specs.declared.patch.ColumnPatch.{ColumnPatch}
use Rattle.model.specs.declared.cell.Cell.{Cell}
use Rattle.model.specs.declared.cell.Cell.TheVariants.{Row, Uniq, Whole}
use Rattle.model.specs.Rows.{Rows, Schema, keys_at, values_in, key_of, is_key}
use Rattle.model.specs.Effect.{patch_row}
use Rattle.model.specs.EffectLemmas.{is_named}
use Rattle.model.specs.ExactLemmas.{key_cmp_exact}
use Rattle.model.specs.Cells.{table_of, same_key, overlaps, row_cell, unique_cell, unique_cells}
use Rattle.model.specs.Footprint.{footprint, shares_cell, both_have, moved_cell, moved_cells, new_place, replaced_cells, removed_cells}
use Rattle.model.specs.OverlapLemmas.{neither, neither_first, neither_second}
use Rattle.indexes.specs.Content.{Content}
use Rattle.change.specs.InverseLemmas.{contains_first, contains_one}
use Rattle.savepoint.specs.Record.{Record as TxRecord}
use Rattle.world.specs.World.{Opened, World, holds}
use Rattle.world.specs.WorldLemmas.{unheld_live}
use Rattle.live_tables.specs.KeptRecords.{Represents}
use Rattle.live_tables.specs.Held.{HasSameCells}
use Rattle.live_tables.specs.HoldsLemmas.{free_of_others}

-- ---- what overlaps a place

both : (a b : Bool) → (a && b) ≡ true → (a ≡ true) × (b ≡ true)
both true b e = (refl, e)
both false b e = absurd cc

-- the place itself, or its table as a whole
pub row_overlaps : (table : ℕ) (key : Key) (d : Cell) → overlaps (Row table key) d ≡ true → (d ≡ Row table key) ⊎ (d ≡ Whole table)
row_overlaps t k (Row u l) e =
    let same = both (t == u) (same_key k l) e in
    inl (λ i. Row (sym (eqb-true t u same.0) i) (sym (tells_apart key_cmp_exact k l same.1) i))
row_overlaps t k (Uniq u j l) e = absurd cc
row_overlaps t k (Whole u) e = inr (ap Whole (sym (eqb-true t u e)))

pub whole_overlaps : (table : ℕ) (key : Key) → overlaps (Row table key) (Whole table) ≡ true
whole_overlaps table key = eq-eqb table table refl

-- a list that has neither
pub free_by_cells : (table : ℕ) (key : Key) (cells others : List Cell) → HasSameCells cells others → ¬ Contains cells (Row table key)
    → ¬ Contains cells (Whole table) → list_any (overlaps (Row table key)) others ≡ false
free_by_cells table key cells others same no_row no_table =
    free_of_others (Row table key) others (λ d is. apart d ((same d).1 is))
  where
    apart : (d : Cell) → Contains cells d → overlaps (Row table key) d ≡ false
    apart d has =
        elim (cases_Bool (overlaps (Row table key) d)) [
          | inl meets ↦
              absurd (elim (row_overlaps table key d meets) [
                | inl is ↦ no_row (subst (λ (c : Cell). Contains cells c) is has)
                | inr is ↦ no_table (subst (λ (c : Cell). Contains cells c) is has)
              ])
          | inr free ↦ free
        ]

-- a cell of a list that shares none with the others
pub free_by_first : (cells others : List Cell) → shares_cell cells others ≡ false → (cell : Cell) → Contains cells cell
    → list_any (overlaps cell) others ≡ false
free_by_first [] others apart cell is = absurd (omega (arith, is.1))
free_by_first (first ∷ cells) others apart cell is =
    elim (contains_first first cells cell is) [
      | inl same ↦ ap (λ (c : Cell). list_any (overlaps c) others) (sym same) ∙ neither_first _ _ apart
      | inr later ↦ free_by_first cells others (neither_second _ _ apart) cell later
    ]

free_of_table : (table : ℕ) (key : Key) (d : Cell) → overlaps (Whole table) d ≡ false → overlaps (Row table key) d ≡ false
free_of_table table key (Row other values) apart = ap (λ b. b && same_key key values) apart
free_of_table table key (Uniq other number values) apart = refl
free_of_table table key (Whole other) apart = apart

-- a place of a table that none of them meets
pub free_in_table : (table : ℕ) (key : Key) (others : List Cell) → list_any (overlaps (Whole table)) others ≡ false
    → list_any (overlaps (Row table key)) others ≡ false
free_in_table table key [] apart = refl
free_in_table table key (d ∷ others) apart =
    neither _ _ (free_of_table table key d (neither_first _ _ apart)) (free_in_table table key others (neither_second _ _ apart))

-- the live row at a place of which nobody holds a cell is the committed one
pub unheld_row : (schema : Schema) (t : Content) (w : World) (records : ℕ → Option TxRecord) → Represents schema t w records → (table : ℕ) (key : Key)
    → ((xid : ℕ) (o : Opened) → get w.opened xid ≡ Some o → list_any (overlaps (Row table key)) (holds schema w xid o) ≡ false)
    → get t.rows (table, key) ≡ get w.committed (table, key)
unheld_row schema t w records kept table key unheld = sym (unheld_live schema w kept.fine t.rows kept.live (Row table key) unheld)

-- ---- changes that meet a whole table

not_row : (table other : ℕ) (key : Key) → ¬ (Row table key ≡ Whole other)
not_row table other key e = cc

not_values : (table number other : ℕ) (values : Key) → ¬ (Uniq table number values ≡ Whole other)
not_values table number other values e = cc

none_in_row : (table : ℕ) (key : Option Key) (other : ℕ) → ¬ Contains (row_cell table key) (Whole other)
none_in_row table None other is = omega (arith, is.1)
none_in_row table (Some key) other is = not_row table other key (contains_one (Row table key) (Whole other) is)

none_in_unique : (table number : ℕ) (values : Option Key) (other : ℕ) → ¬ Contains (unique_cell table number values) (Whole other)
none_in_unique table number None other is = omega (arith, is.1)
none_in_unique table number (Some values) other is = not_values table number other values (contains_one (Uniq table number values) (Whole other) is)

none_at_all : (cell : Cell) → ¬ Contains [] cell
none_at_all cell is = omega (arith, is.1)

-- in neither of two lists, so not in both together
none_in_both : (cells more : List Cell) (cell : Cell) → ¬ Contains cells cell → ¬ Contains more cell → ¬ Contains (cells ++ more) cell
none_in_both cells more cell first second is =
    elim (Contains-append_cases cells more cell is) [
      | inl one ↦ first one
      | inr two ↦ second two
    ]

none_in_uniques : (table : ℕ) (row : Record) (number : ℕ) (uniques : List (List ℕ)) (other : ℕ) → ¬ Contains (unique_cells table row number uniques) (Whole other)
none_in_uniques table row number [] other = none_at_all (Whole other)
none_in_uniques table row number (columns ∷ uniques) other =
    none_in_both (unique_cell table number (values_in columns row)) (unique_cells table row (suc number) uniques) (Whole other)
    (none_in_unique table number (values_in columns row) other) (none_in_uniques table row (suc number) uniques other)

none_in_moved_by : (table number : ℕ) (old new : Option Key) (other : ℕ) (b : Bool)
    → ¬ Contains (if b then [] else unique_cell table number old ++ unique_cell table number new) (Whole other)
none_in_moved_by table number old new other true = none_at_all (Whole other)
none_in_moved_by table number old new other false =
    none_in_both (unique_cell table number old) (unique_cell table number new) (Whole other)
    (none_in_unique table number old other) (none_in_unique table number new other)

none_in_moved : (table : ℕ) (old new : Record) (number : ℕ) (uniques : List (List ℕ)) (other : ℕ) → ¬ Contains (moved_cells table old new number uniques) (Whole other)
none_in_moved table old new number [] other = none_at_all (Whole other)
none_in_moved table old new number (columns ∷ uniques) other =
    none_in_both (moved_cell table number (values_in columns old) (values_in columns new)) (moved_cells table old new (suc number) uniques) (Whole other)
    (none_in_moved_by table number (values_in columns old) (values_in columns new) other (both_have (values_in columns old) (values_in columns new)))
    (none_in_moved table old new (suc number) uniques other)

none_in_new_place : (table : ℕ) (key : Key) (new : Option Key) (other : ℕ) (b : Bool) → ¬ Contains (if b then [] else row_cell table new) (Whole other)
none_in_new_place table key new other true = none_at_all (Whole other)
none_in_new_place table key new other false = none_in_row table new other

none_in_replaced : (schema : Schema) (table : ℕ) (key : Key) (patch : List ColumnPatch) (old : Option Record) (other : ℕ)
    → ¬ Contains (replaced_cells schema table key patch old) (Whole other)
none_in_replaced schema table key patch None other = none_at_all (Whole other)
none_in_replaced schema table key patch (Some old) other =
    none_in_both (new_place table key (key_of schema table (patch_row patch old))) (moved_cells table old (patch_row patch old) 1 (keys_at schema table).uniques) (Whole other)
    (none_in_new_place table key (key_of schema table (patch_row patch old)) other (is_key (key_of schema table (patch_row patch old)) key))
    (none_in_moved table old (patch_row patch old) 1 (keys_at schema table).uniques other)

none_in_removed : (schema : Schema) (table : ℕ) (old : Option Record) (other : ℕ) → ¬ Contains (removed_cells schema table old) (Whole other)
none_in_removed schema table None other = none_at_all (Whole other)
none_in_removed schema table (Some old) other = none_in_uniques table old 1 (keys_at schema table).uniques other

-- the tables that a wipe names have it as a whole
pub named_by : (tables : List ℕ) (table : ℕ) → Contains (map Whole tables) (Whole table) → is_named tables table ≡ true
named_by [] table is = absurd (omega (arith, is.1))
named_by (first ∷ tables) table is =
    elim (contains_first (Whole first) (map Whole tables) (Whole table) is) [
      | inl same ↦ ap (λ b. b || is_named tables table) (eq-eqb table first (sym (ap table_of same)))
      | inr later ↦ or_true (table == first) (is_named tables table) (named_by tables table later)
    ]
  where
    or_true : (a b : Bool) → b ≡ true → (a || b) ≡ true
    or_true true b e = refl
    or_true false b e = e

-- what meets a table as a whole is a wipe of it
pub wipe_of : (schema : Schema) (rows : Rows) (c : Change) (table : ℕ) → Contains (footprint schema rows c) (Whole table)
    → (tables : List ℕ) × (c ≡ Wipe tables) × (is_named tables table ≡ true)
unfolding footprint
wipe_of schema rows (Put t row) table is =
    absurd (none_in_both (row_cell t (key_of schema t row)) (unique_cells t row 1 (keys_at schema t).uniques) (Whole table)
    (none_in_row t (key_of schema t row) table) (none_in_uniques t row 1 (keys_at schema t).uniques table) is)
wipe_of schema rows (Set t key patch) table is =
    absurd (elim (contains_first (Row t key) (replaced_cells schema t key patch (get rows (t, key))) (Whole table) is) [
      | inl e ↦ not_row t table key e
      | inr later ↦ none_in_replaced schema t key patch (get rows (t, key)) table later
    ])
wipe_of schema rows (Remove t key) table is =
    absurd (elim (contains_first (Row t key) (removed_cells schema t (get rows (t, key))) (Whole table) is) [
      | inl e ↦ not_row t table key e
      | inr later ↦ none_in_removed schema t (get rows (t, key)) table later
    ])
wipe_of schema rows (Wipe tables) table is = (tables, refl, named_by tables table is)
