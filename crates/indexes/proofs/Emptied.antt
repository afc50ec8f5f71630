-- What a table gave up is in no room of all tables.
use Rattle.std.specs.Prelude.{◌≡◌, ◌≢◌, ℕ, suc, ◌+◌, false, List, Some, None, refl, slice_get, slice_set, ◌<◌, length, slice_index_or}
use Rattle.std.proofs.Common.{zero, sym, ◌∙◌, ap, subst, inl, inr, arith}
use Rattle.std.specs.List.{Contains}
use Rattle.std.specs.FinMap.{get}
use Rattle.model.specs.declared.key.Key.{Key}
use Rattle.model.specs.declared.row.Row.{Row as Record}
use Rattle.model.specs.declared.cell.Cell.{Cell}
use Rattle.model.specs.declared.cell.Cell.TheVariants.{Row, Uniq}
use Rattle.model.specs.Rows.{values_in, keys_at, are_taken, TableKeys}
use Rattle.model.specs.Cells.{cells_of}
use Rattle.model.specs.TakenLemmas.{taken_by_row}
use Rattle.indexes.specs.Table.{Spot, TableContent, KeepsSpots, spots_of, unique_spots, IsOfSettled, IsFilled, cell_of_key, cell_at, cells_in}
use Rattle.indexes.specs.Content.{Content, KeepsCells}
use Rattle.indexes.specs.Gathered.{schema_of, rows_of, cells_from, gathered, AllSound}
use Rattle.indexes.proofs.Elements.{contains_elem, elem_contains, elem_of_map}
use Rattle.indexes.proofs.Room.{spot_of, unique_values_spot}
use Rattle.indexes.proofs.Gather.{set_there}
use Rattle.indexes.proofs.Cells.{room_of_table}
use Rattle.indexes.proofs.Seen.{at, seen_keys, seen_get, free, schema_stays, unchanged, fewer, settled}

row_spot : (table number : ℕ) (values key : Key) → cell_of_key table number values ≡ Row table key → ◌≡◌ {A = Spot} (number, values) (0, key)
row_spot table zero values key e = let same : values ≡ key = cc in ap (λ (k : Key). (0, k)) same
row_spot table (suc number) values key e = absurd cc

uniq_spot : (table number at : ℕ) (values found : Key) → cell_of_key table number values ≡ Uniq table (suc at) found → ◌≡◌ {A = Spot} (number, values) (suc at, found)
uniq_spot table zero at values found e = absurd cc
uniq_spot table (suc number) at values found e =
    let numbers : suc number ≡ suc at = cc in
    let same : values ≡ found = cc in
    ap (λ (n : ℕ). (n, values)) numbers ∙ ap (λ (k : Key). (suc at, k)) same

module _ (ts : List TableContent) (seen : Content) (v : gathered ts ≡ seen) (i : ℕ) (known : i < length seen.schema) (t : TableContent) (value_is : t ≡ slice_index_or ts i t) (new : TableContent)
    (all : AllSound ts) (key : Key) (row : Record)
    (gone : (s : Spot) → IsOfSettled t.keys key row s → (IsFilled t.keys t.rows s → ⊥) → Contains new.room s → ⊥) where
  -- a cell of the table in the room of all is a spot in its own
  own_spot : (c : Cell) → Contains (cells_in i new) c → (s : Spot) × Contains new.room s × (cell_at i s ≡ c)
  own_spot c h = let p = elem_of_map (cell_at i) new.room c (elem_contains _ _ h) in (p.0, contains_elem _ _ p.1, p.2)

  key_free : get t.rows key ≡ None → IsFilled t.keys t.rows (0, key) → ⊥
  key_free none filled = elim (spot_of t.keys filled.1 (0, key) filled.3) [
    | inl (own, has, same) ↦
        let stands : values_in t.keys.primary filled.1 ≡ Some filled.0 = (all i t (at ts seen v i known t value_is)).own_key filled.0 filled.1 filled.2 in
        let key_is : key ≡ own = ap (λ (s : Spot). s.1) same in
        let one : filled.0 ≡ own = cc in
        let there : get t.rows key ≡ Some filled.1 = ap (get t.rows) (key_is ∙ sym one) ∙ filled.2 in
        cc
    | inr o ↦ let e = o.number in omega arith
  ]

  slot_gone : get seen.rows (i, key) ≡ None → Contains (cells_from 0 (slice_set ts i new)) (Row i key) → ⊥
  slot_gone none h =
      let p = own_spot (Row i key) (room_of_table (slice_set ts i new) i new (set_there ts i t new (at ts seen v i known t value_is)) (Row i key) refl h) in
      let is = row_spot i p.0.0 p.0.1 key p.2 in
      gone p.0 (inl is) (λ filled. key_free (free ts seen v i known t value_is key none) (subst (λ (s : Spot). IsFilled t.keys t.rows s) is filled)) p.1

  values_free : (j : ℕ) (columns : List ℕ) (values : Key) → slice_get t.keys.uniques j ≡ Some columns → are_taken seen.rows i columns values ≡ false
      → IsFilled t.keys t.rows (suc j, values) → ⊥
  values_free j columns values there none filled = elim (spot_of t.keys filled.1 (suc j, values) filled.3) [
    | inl (own, has, same) ↦ let n : suc j ≡ 0 = ap (λ (s : Spot). s.0) same in omega arith
    | inr o ↦
        let j_is : o.i ≡ j = let e = o.number in omega arith in
        let found : slice_get t.keys.uniques j ≡ Some o.columns = subst (λ (n : ℕ). slice_get t.keys.uniques n ≡ Some o.columns) j_is o.at in
        let columns_is : o.columns ≡ columns = cc in
        let is_taken = taken_by_row seen.rows i columns values filled.0 filled.1 (seen_get ts seen v i known t value_is filled.0 ∙ filled.2) (ap (λ cs. values_in cs filled.1) (sym columns_is) ∙ o.has) in
        cc
  ]

  values_gone : (j : ℕ) (columns : List ℕ) (values : Key) → slice_get (keys_at seen.schema i).uniques j ≡ Some columns → values_in columns row ≡ Some values
      → are_taken seen.rows i columns values ≡ false → Contains (cells_from 0 (slice_set ts i new)) (Uniq i (j + 1) values) → ⊥
  values_gone j columns values there has none h =
      let number_is : j + 1 ≡ suc j = omega arith in
      let there_is = subst (λ (n : ℕ). Contains (cells_from 0 (slice_set ts i new)) (Uniq i n values)) number_is h in
      let own : slice_get t.keys.uniques j ≡ Some columns = ap (λ (k : TableKeys). slice_get k.uniques j) (sym (seen_keys ts seen v i known t value_is)) ∙ there in
      let p = own_spot (Uniq i (suc j) values) (room_of_table (slice_set ts i new) i new (set_there ts i t new (at ts seen v i known t value_is)) (Uniq i (suc j) values) refl there_is) in
      let is = uniq_spot i p.0.0 j p.0.1 values p.2 in
      gone p.0 (inr (subst (λ (s : Spot). Contains (unique_spots row 1 t.keys.uniques) s) (sym is) (unique_values_spot t.keys row j columns values own has)))
      (λ filled. values_free j columns values own none (subst (λ (s : Spot). IsFilled t.keys t.rows s) is filled)) p.1

  -- what a settled table leaves among all
  pub left_settled : new.keys ≡ t.keys → new.rows ≡ t.rows → KeepsSpots new.room t.room
      → ((s : Spot) → ¬ Contains (spots_of t.keys row) s → s ≢ (0, key) → Contains t.room s → Contains new.room s)
      → record {
        schema : schema_of (slice_set ts i new) ≡ seen.schema;
        rows : rows_of (slice_set ts i new) ≡ seen.rows;
        slot : get seen.rows (i, key) ≡ None → ¬ Contains (cells_from 0 (slice_set ts i new)) (Row i key);
        values : (j : ℕ) (columns : List ℕ) (values : Key) → slice_get (keys_at seen.schema i).uniques j ≡ Some columns → values_in columns row ≡ Some values
            → are_taken seen.rows i columns values ≡ false → ¬ Contains (cells_from 0 (slice_set ts i new)) (Uniq i (j + 1) values);
        fewer : KeepsCells (cells_from 0 (slice_set ts i new)) seen.room;
        others : (c : Cell) → ¬ Contains (cells_of seen.schema i row) c → c ≢ Row i key → Contains seen.room c → Contains (cells_from 0 (slice_set ts i new)) c;
      }
  left_settled keys rows room others = record {
    schema = schema_stays ts seen v i known t value_is new keys;
    rows = unchanged ts seen v i known t value_is new rows;
    slot = slot_gone;
    values = values_gone;
    fewer = fewer ts seen v i known t value_is new room;
    others = settled ts seen v i known t value_is new row key others;
  }
