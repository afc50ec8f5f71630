-- The room of one table among all.
use Rattle.std.specs.Prelude.{◌≡◌, ◌≢◌, ℕ, suc, ◌+◌, List, [], ◌∷◌, ◌++◌, map, Option, Some, None, refl, ◌⊎◌, slice_get, slice_set}
use Rattle.std.proofs.Common.{zero, sym, ◌∙◌, ap, subst, inl, inr, arith}
use Rattle.std.specs.List.{Contains}
use Rattle.model.specs.declared.key.Key.{Key}
use Rattle.model.specs.declared.row.Row.{Row as Record}
use Rattle.model.specs.declared.cell.Cell.{Cell}
use Rattle.model.specs.Rows.{TableKeys, Schema, values_in, keys_at}
use Rattle.model.specs.Cells.{row_cell, unique_cell, unique_cells, cells_of, table_of}
use Rattle.indexes.specs.Table.{Spot, TableContent, spot, unique_spots, spots_of, cell_of_key, cell_at, cells_in, KeepsSpots}
use Rattle.indexes.specs.Content.{KeepsCells, HasRoom, SameRoomElsewhere}
use Rattle.indexes.specs.Gathered.{cells_from, schema_of}
use Rattle.indexes.proofs.Elements.{Elem, contains_elem, elem_contains, elem_left, elem_right, elem_either, elem_map, elem_of_map}
use Rattle.indexes.proofs.Gather.{set_there, set_elsewhere, keys_is}

same_or_not : (n m : ℕ) → (n ≡ m) ⊎ (n ≢ m)
same_or_not n m = grind arith

-- ---- a row's cells are its spots, in its table

map_append : (f : Spot → Cell) (xs ys : List Spot) → map f (xs ++ ys) ≡ map f xs ++ map f ys
map_append f [] ys = refl
map_append f (x ∷ xs) ys = ap (λ cs. f x ∷ cs) (map_append f xs ys)

row_spot : (table : ℕ) (o : Option Key) → row_cell table o ≡ map (cell_at table) (spot 0 o)
row_spot table None = refl
row_spot table (Some key) = refl

uniq_spot : (table n : ℕ) (o : Option Key) → unique_cell table (suc n) o ≡ map (cell_at table) (spot (suc n) o)
uniq_spot table n None = refl
uniq_spot table n (Some values) = refl

uniq_spots : (table : ℕ) (row : Record) (n : ℕ) (uniques : List (List ℕ)) → unique_cells table row (suc n) uniques ≡ map (cell_at table) (unique_spots row (suc n) uniques)
uniq_spots table row n [] = refl
uniq_spots table row n (columns ∷ uniques) =
    ap (λ cs. cs ++ unique_cells table row (suc (suc n)) uniques) (uniq_spot table n (values_in columns row))
    ∙ ap (λ cs. map (cell_at table) (spot (suc n) (values_in columns row)) ++ cs) (uniq_spots table row (suc n) uniques)
    ∙ sym (map_append (cell_at table) (spot (suc n) (values_in columns row)) (unique_spots row (suc (suc n)) uniques))

pub cells_are : (schema : Schema) (table : ℕ) (row : Record) → cells_of schema table row ≡ map (cell_at table) (spots_of (keys_at schema table) row)
cells_are schema table row =
    let keys = keys_at schema table in
    ap (λ cs. cs ++ unique_cells table row 1 keys.uniques) (row_spot table (values_in keys.primary row))
    ∙ ap (λ cs. map (cell_at table) (spot 0 (values_in keys.primary row)) ++ cs) (uniq_spots table row 0 keys.uniques)
    ∙ sym (map_append (cell_at table) (spot 0 (values_in keys.primary row)) (unique_spots row 1 keys.uniques))

-- ---- spots and cells

table_of_spot : (table n : ℕ) (values : Key) → table_of (cell_of_key table n values) ≡ table
table_of_spot table zero values = refl
table_of_spot table (suc n) values = refl

pub table_of_cell : (table : ℕ) (s : Spot) → table_of (cell_at table s) ≡ table
table_of_cell table s = table_of_spot table s.0 s.1

one_spot : (table n m : ℕ) (values others : Key) → cell_of_key table n values ≡ cell_of_key table m others → (n ≡ m) × (values ≡ others)
one_spot table zero zero values others e = (refl, cc)
one_spot table zero (suc m) values others e = absurd cc
one_spot table (suc n) zero values others e = absurd cc
one_spot table (suc n) (suc m) values others e = (cc, cc)

pub cell_tells : (table : ℕ) (s t : Spot) → cell_at table s ≡ cell_at table t → s ≡ t
cell_tells table s t e = let p = one_spot table s.0 t.0 s.1 t.1 e in λ i. (p.0 i, p.1 i)

-- ---- all tables' rooms

-- the table that a cell of the room is of, and the spot
pub record RoomAt (n : ℕ) (ts : List TableContent) (c : Cell) : Type 0 where
  pub i : ℕ
  pub t : TableContent
  pub at : slice_get ts i ≡ Some t
  pub spot : Spot
  pub there : Elem t.room spot
  pub is : c ≡ cell_at (n + i) spot

room_at : (n : ℕ) (ts : List TableContent) (c : Cell) → Elem (cells_from n ts) c → RoomAt n ts c
room_at n [] c h = absurd h
room_at n (t ∷ ts) c h = elim (elem_either (cells_in n t) (cells_from (suc n) ts) c h) [
  | inl here ↦
      let p = elem_of_map (cell_at n) t.room c here in
      let n_is : n ≡ n + 0 = omega arith in
      record { i = 0; t = t; at = refl; spot = p.0; there = p.1; is = sym p.2 ∙ ap (λ (m : ℕ). cell_at m p.0) n_is }
  | inr later ↦
      let r = room_at (suc n) ts c later in
      let n_is : suc n + r.i ≡ n + suc r.i = omega arith in
      record { i = suc r.i; t = r.t; at = r.at; spot = r.spot; there = r.there; is = r.is ∙ ap (λ (m : ℕ). cell_at m r.spot) n_is }
]

in_rooms : (n : ℕ) (ts : List TableContent) (i m : ℕ) (t : TableContent) (s : Spot) → slice_get ts i ≡ Some t → Elem t.room s → m ≡ n + i → Elem (cells_from n ts) (cell_at m s)
in_rooms n [] i m t s at h is = absurd cc
in_rooms n (u ∷ ts) zero m t s at h is =
    let same : t ≡ u = cc in
    let n_is : n ≡ m = omega arith in
    elem_left (cells_in n u) (cells_from (suc n) ts) (cell_at m s)
    (subst (λ (k : ℕ). Elem (cells_in n u) (cell_at k s)) n_is (elem_map (cell_at n) u.room s (subst (λ (w : TableContent). Elem w.room s) same h)))
in_rooms n (u ∷ ts) (suc i) m t s at h is =
    elem_right (cells_in n u) (cells_from (suc n) ts) (cell_at m s) (in_rooms (suc n) ts i m t s at h (omega arith))

-- the room has cells of the tables that are there alone
pub table_of_room : (ts : List TableContent) (c : Cell) → Contains (cells_from 0 ts) c → (t : TableContent) × (slice_get ts (table_of c) ≡ Some t) × (s : Spot) × (c ≡ cell_at (table_of c) s)
table_of_room ts c h =
    let r = room_at 0 ts c (elem_contains _ _ h) in
    let table_is : table_of c ≡ 0 + r.i = ap table_of r.is ∙ table_of_cell (0 + r.i) r.spot in
    let i_is : table_of c ≡ r.i = omega arith in
    (r.t, ap (slice_get ts) i_is ∙ r.at, r.spot, r.is ∙ ap (λ (m : ℕ). cell_at m r.spot) (sym table_is))

-- a cell of a table's room is a spot of it
pub spot_in : (ts : List TableContent) (i : ℕ) (t : TableContent) (s : Spot) → slice_get ts i ≡ Some t → Contains (cells_from 0 ts) (cell_at i s) → Contains t.room s
spot_in ts i t s at c =
    let r = room_at 0 ts (cell_at i s) (elem_contains _ _ c) in
    let table_is : i ≡ r.i = sym (table_of_cell i s) ∙ ap table_of r.is ∙ table_of_cell (0 + r.i) r.spot ∙ omega arith in
    let t_is : r.t ≡ t = let there : slice_get ts r.i ≡ Some t = ap (slice_get ts) (sym table_is) ∙ at in let here = r.at in cc in
    let i_is : 0 + r.i ≡ i = omega arith in
    let spot_is : s ≡ r.spot = cell_tells i s r.spot (r.is ∙ ap (λ (m : ℕ). cell_at m r.spot) i_is) in
    contains_elem _ _ (subst (λ (w : TableContent). Elem w.room s) t_is (subst (Elem r.t.room) (sym spot_is) r.there))

pub cell_in : (ts : List TableContent) (i : ℕ) (t : TableContent) (s : Spot) → slice_get ts i ≡ Some t → Contains t.room s → Contains (cells_from 0 ts) (cell_at i s)
cell_in ts i t s at c = contains_elem _ _ (in_rooms 0 ts i i t s at (elem_contains _ _ c) (omega arith))

-- ---- a row's room

pub has_room : (ts : List TableContent) (i : ℕ) (t : TableContent) (row : Record) → slice_get ts i ≡ Some t → HasRoom (cells_from 0 ts) (schema_of ts) i row → KeepsSpots (spots_of t.keys row) t.room
has_room ts i t row at room s c =
    let in_cells : Contains (cells_of (schema_of ts) i row) (cell_at i s) =
    subst (λ (cs : List Cell). Contains cs (cell_at i s)) (sym (cells_are (schema_of ts) i row))
    (contains_elem _ _ (elem_map (cell_at i) (spots_of (keys_at (schema_of ts) i) row) s
    (subst (λ (k : TableKeys). Elem (spots_of k row) s) (sym (keys_is ts i t at)) (elem_contains _ _ c)))) in
    spot_in ts i t s at (room (cell_at i s) in_cells)

pub room_has : (ts : List TableContent) (i : ℕ) (t : TableContent) (row : Record) → slice_get ts i ≡ Some t → KeepsSpots (spots_of t.keys row) t.room → HasRoom (cells_from 0 ts) (schema_of ts) i row
room_has ts i t row at room c h =
    let in_map = subst (λ (cs : List Cell). Contains cs c) (cells_are (schema_of ts) i row) h in
    let p = elem_of_map (cell_at i) (spots_of (keys_at (schema_of ts) i) row) c (elem_contains _ _ in_map) in
    let spot_there = subst (λ (k : TableKeys). Elem (spots_of k row) p.0) (keys_is ts i t at) p.1 in
    subst (Contains (cells_from 0 ts)) p.2 (cell_in ts i t p.0 at (room p.0 (contains_elem _ _ spot_there)))

-- ---- after a change of one table

-- a cell stays where the spots of the table that are that cell stay
pub cell_stays : (ts : List TableContent) (i : ℕ) (t new : TableContent) → slice_get ts i ≡ Some t → (c : Cell)
    → ((s : Spot) → cell_at i s ≡ c → Contains t.room s → Contains new.room s) → Contains (cells_from 0 ts) c → Contains (cells_from 0 (slice_set ts i new)) c
cell_stays ts i t new at c keeps h =
    let r = room_at 0 ts c (elem_contains _ _ h) in
    let i_is : r.i ≡ 0 + r.i = omega arith in
    let c_is : cell_at r.i r.spot ≡ c = ap (λ (m : ℕ). cell_at m r.spot) i_is ∙ sym r.is in
    elim (same_or_not r.i i) [
      | inl same ↦
          let t_is : r.t ≡ t = let there : slice_get ts r.i ≡ Some t = ap (slice_get ts) same ∙ at in let here = r.at in cc in
          let new_at : slice_get (slice_set ts i new) r.i ≡ Some new = ap (slice_get (slice_set ts i new)) same ∙ set_there ts i t new at in
          subst (Contains (cells_from 0 (slice_set ts i new))) c_is
          (cell_in (slice_set ts i new) r.i new r.spot new_at
          (keeps r.spot (ap (λ (m : ℕ). cell_at m r.spot) (sym same) ∙ c_is) (subst (λ (w : TableContent). Contains w.room r.spot) t_is (contains_elem _ _ r.there))))
      | inr differs ↦
          subst (Contains (cells_from 0 (slice_set ts i new))) c_is
          (cell_in (slice_set ts i new) r.i r.t r.spot (set_elsewhere ts i r.i new differs ∙ r.at) (contains_elem _ _ r.there))
    ]

pub room_after : (ts : List TableContent) (i : ℕ) (t new : TableContent) → slice_get ts i ≡ Some t → KeepsSpots t.room new.room → KeepsCells (cells_from 0 ts) (cells_from 0 (slice_set ts i new))
room_after ts i t new at keeps c = cell_stays ts i t new at c (λ s is. keeps s)

set_back : (ts : List TableContent) (i : ℕ) (t new : TableContent) → slice_get ts i ≡ Some t → slice_set (slice_set ts i new) i t ≡ ts
set_back [] i t new at = absurd cc
set_back (u ∷ ts) zero t new at = let same : t ≡ u = cc in ap (λ (w : TableContent). w ∷ ts) same
set_back (u ∷ ts) (suc i) t new at = ap (λ us. u ∷ us) (set_back ts i t new at)

-- where a table has fewer spots, all have fewer cells: the old ones are the new ones with the old table set back
pub room_fewer : (ts : List TableContent) (i : ℕ) (t new : TableContent) → slice_get ts i ≡ Some t → KeepsSpots new.room t.room → KeepsCells (cells_from 0 (slice_set ts i new)) (cells_from 0 ts)
room_fewer ts i t new at fewer =
    subst (λ (us : List TableContent). KeepsCells (cells_from 0 (slice_set ts i new)) (cells_from 0 us)) (set_back ts i t new at)
    (room_after (slice_set ts i new) i new t (set_there ts i t new at) fewer)

pub room_elsewhere : (ts : List TableContent) (i : ℕ) (new : TableContent) → SameRoomElsewhere (cells_from 0 ts) (cells_from 0 (slice_set ts i new)) i
room_elsewhere ts i new c differs h =
    let r = room_at 0 ts c (elem_contains _ _ h) in
    let i_is : r.i ≡ 0 + r.i = omega arith in
    let c_is : cell_at r.i r.spot ≡ c = ap (λ (m : ℕ). cell_at m r.spot) i_is ∙ sym r.is in
    let table_is : table_of c ≡ r.i = ap table_of (sym c_is) ∙ table_of_cell r.i r.spot in
    let apart : r.i ≢ i = λ e. differs (table_is ∙ e) in
    subst (Contains (cells_from 0 (slice_set ts i new))) c_is
    (cell_in (slice_set ts i new) r.i r.t r.spot (set_elsewhere ts i r.i new apart ∙ r.at) (contains_elem _ _ r.there))

-- the cells of a table's room
pub room_of_table : (ts : List TableContent) (i : ℕ) (t : TableContent) → slice_get ts i ≡ Some t → (c : Cell) → table_of c ≡ i → Contains (cells_from 0 ts) c → Contains (cells_in i t) c
room_of_table ts i t at c table_is h =
    let r = room_at 0 ts c (elem_contains _ _ h) in
    let i_is : r.i ≡ 0 + r.i = omega arith in
    let c_is : cell_at r.i r.spot ≡ c = ap (λ (m : ℕ). cell_at m r.spot) i_is ∙ sym r.is in
    let same : r.i ≡ i = sym (table_of_cell r.i r.spot) ∙ ap table_of c_is ∙ table_is in
    let t_is : r.t ≡ t = let there : slice_get ts r.i ≡ Some t = ap (slice_get ts) same ∙ at in let here = r.at in cc in
    contains_elem _ _ (subst (Elem (cells_in i t)) (ap (λ (m : ℕ). cell_at m r.spot) (sym same) ∙ c_is)
    (elem_map (cell_at i) t.room r.spot (subst (λ (w : TableContent). Elem w.room r.spot) t_is r.there)))

pub room_of_new : (ts : List TableContent) (i : ℕ) (t new : TableContent) → slice_get ts i ≡ Some t → KeepsCells (cells_in i new) (cells_from 0 (slice_set ts i new))
room_of_new ts i t new at c h =
    let p = elem_of_map (cell_at i) new.room c (elem_contains _ _ h) in
    subst (Contains (cells_from 0 (slice_set ts i new))) p.2 (cell_in (slice_set ts i new) i new p.0 (set_there ts i t new at) (contains_elem _ _ p.1))
