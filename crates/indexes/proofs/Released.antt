-- A slot or an entry that is given up by itself, of a table and of all tables.
use Rattle.std.specs.Prelude.{◌≡◌, ◌≢◌, ℕ, suc, ◌<◌, ◌≤◌, List, [], ◌∷◌, length, map, Some, None, refl, slice_get, slice_set, slice_index_or, IsSome, is_some, if◌then◌else◌}
use Rattle.std.proofs.Common.{zero, sym, ◌∙◌, ap, subst, inl, inr, arith}
use Rattle.std.specs.List.{Contains}
use Rattle.std.specs.FinMap.{get, remove}
use Rattle.std.proofs.lemmas.List.{get_or-set_same, get_or-set_other}
use Rattle.std.proofs.Math.ListN.{length-set}
use Rattle.std.proofs.lemmas.Option.{slice_get-get_or}
use Rattle.model.specs.declared.key.Key.{Key}
use Rattle.model.specs.declared.cell.Cell.{Cell}
use Rattle.model.specs.declared.cell.Cell.TheVariants.{Row, Uniq, Whole}
use Rattle.model.specs.Rows.{TableKeys}
use Rattle.model.specs.Cells.{cells_of, table_of}
use Rattle.rows.specs.Kept.{Kept}
use Rattle.indexes.specs.declared.unique.Unique.{Unique}
use Rattle.indexes.specs.Unique.{entry_at, ReleasesValues, EachStep}
use Rattle.indexes.specs.Table.{Spot, TableContent, spots_of, IsFilled, IsSound, ReleasesSpot, cell_of_key, cell_at}
use Rattle.indexes.specs.Content.{Content, IsEmptyCell, ReleasesCell}
use Rattle.indexes.specs.Gathered.{gathered, schema_of, rows_of, AllSound}
use Rattle.indexes.specs.Indexed.{IsIndexed, columns_of, room_of}
use Rattle.indexes.proofs.Elements.{contains_elem, elem_contains, elem_map, one_or_other}
use Rattle.indexes.proofs.Room.{in_room}
use Rattle.indexes.proofs.Steps.{same_or_not, any_default, one_stepped}
use Rattle.indexes.proofs.Tabling.{LosesSlots, LosesEntries, nothing_lost, columns_stay, indexed_fewer, room_fewer, spot_kept, slots_settled, key_stays}
use Rattle.indexes.proofs.Settled.{key_gone, entry_gone}
use Rattle.indexes.proofs.Copying.{seen_as}
use Rattle.indexes.proofs.Gather.{set_there, keys_is, get_is, rows_same, schema_after, sound_after}
use Rattle.indexes.proofs.Cells as cells
use Rattle.indexes.proofs.Cells.{cells_are, table_of_cell, spot_in, cell_stays, table_of_room}

-- ---- of a table

module _ (primary : List ℕ) (old new : Kept) (us vs : List Unique) (slots : LosesSlots old new) (steps : EachStep LosesEntries us vs) where
  -- where slots and entries that are empty went, and no other spot than one
  spot_released : (s : Spot) → (Contains (room_of new vs) s → IsFilled (record { primary = primary; uniques = columns_of us }) old.rows s)
      → ((other : Spot) → other ≢ s → Contains (room_of old us) other → Contains (room_of new vs) other)
      → ReleasesSpot (seen_as primary old us) (seen_as primary new vs) s
  spot_released s filled others = record {
    keys = ap (λ (cs : List (List ℕ)). let keys : TableKeys = record { primary = primary; uniques = cs } in keys) (columns_stay old new us vs slots steps);
    rows = slots.rows;
    gone = λ empty room. empty (filled room);
    fewer = room_fewer old new us vs slots steps;
    others = others;
  }

no_entries_lost : (us : List Unique) → EachStep LosesEntries us us
no_entries_lost us = record { long = refl; each = λ k d l. nothing_lost (slice_index_or us k d) }

no_slots_lost : (kept : Kept) → LosesSlots kept kept
no_slots_lost kept = record { rows = refl; filled = λ key number filled at. at; fewer = λ key number at. at }

-- a key's slot
module _ (primary : List ℕ) (old new : Kept) (us : List Unique) (key : Key) (was : IsIndexed primary old us)
    (rows : new.rows ≡ old.rows) (slots : new.slots ≡ (if is_some (get old.rows key) then old.slots else remove old.slots key)) where
  pub indexed_without_slot : IsIndexed primary new us
  indexed_without_slot = indexed_fewer old new us us (slots_settled old new key rows slots) (no_entries_lost us) primary was

  pub slot_released : ReleasesSpot (seen_as primary old us) (seen_as primary new us) (0, key)
  slot_released =
      spot_released primary old new us us (slots_settled old new key rows slots) (no_entries_lost us) (0, key)
      (key_gone (record { primary = primary; uniques = columns_of us }) old new us us key was slots (0, key) refl)
      (λ other differs. spot_kept old new us us other (key_stays old new key rows slots other differs) refl (λ k d l number some. some))

-- the entry of values in a unique key
module _ (primary : List ℕ) (kept : Kept) (us : List Unique) (i : ℕ) (within : i < length us) (item new : Unique) (values : Key) (was : IsIndexed primary kept us)
    (gives : ReleasesValues values (slice_index_or us i item) new) where
  entry_lost : EachStep LosesEntries us (slice_set us i new)
  entry_lost = one_stepped LosesEntries nothing_lost us i within item new (record { columns = gives.columns; numbers = gives.entries.numbers; fewer = gives.entries.fewer })

  pub indexed_without_entry : IsIndexed primary kept (slice_set us i new)
  indexed_without_entry = indexed_fewer kept kept us (slice_set us i new) (no_slots_lost kept) entry_lost primary was

  -- at the index
  new_entry : (k : ℕ) (d : Unique) (other : Key) → k ≡ i → entry_at (slice_index_or (slice_set us i new) k d).entries other ≡ entry_at new.entries other
  new_entry k d other same = ap (λ (u : Unique). entry_at u.entries other) (ap (λ j. slice_index_or (slice_set us i new) j d) same ∙ get_or-set_same us i new d within)

  entry_filled : Contains (room_of kept (slice_set us i new)) (suc i, values) → IsFilled (record { primary = primary; uniques = columns_of us }) kept.rows (suc i, values)
  entry_filled room = elim (in_room kept (slice_set us i new) (suc i, values) room) [
    | inl (other, same, number, slot) ↦ absurd (let none : suc i ≡ 0 = ap (λ (t : Spot). t.0) same in omega arith)
    | inr h ↦
        let i_is : h.i ≡ i = let e = h.number in omega arith in
        entry_gone (record { primary = primary; uniques = columns_of us }) kept us refl was i item within new.entries values gives.entries.gone
        (ap is_some (sym (new_entry h.i item values i_is)) ∙ h.entry item)
  ]

  entry_stays : (other : Spot) → other ≢ (suc i, values) → (k : ℕ) (d : Unique) → k < length us → other.0 ≡ suc k
      → IsSome (entry_at (slice_index_or us k d).entries other.1) → IsSome (entry_at (slice_index_or (slice_set us i new) k d).entries other.1)
  entry_stays other differs k d l number some = elim (same_or_not k i) [
    | inr apart ↦ ap (λ (u : Unique). is_some (entry_at u.entries other.1)) (get_or-set_other us i k new d apart) ∙ some
    | inl same ↦ elim (one_or_other values other.1) [
      | inl alike ↦ absurd (let number_is : other.0 ≡ suc i = number ∙ ap suc same in differs (λ j. (number_is j, sym alike j)))
      | inr apart ↦
          let item_is : slice_index_or us i item ≡ slice_index_or us k d = any_default us i item d within ∙ ap (λ j. slice_index_or us j d) (sym same) in
          ap is_some (new_entry k d other.1 same ∙ gives.entries.beside other.1 apart) ∙ ap (λ (u : Unique). is_some (entry_at u.entries other.1)) item_is ∙ some
    ]
  ]

  pub entry_released : ReleasesSpot (seen_as primary kept us) (seen_as primary kept (slice_set us i new)) (suc i, values)
  entry_released =
      spot_released primary kept kept us (slice_set us i new) (no_slots_lost kept) entry_lost (suc i, values) entry_filled
      (λ other differs. spot_kept kept kept us (slice_set us i new) other (λ number is at. at) (length-set us i new) (entry_stays other differs))

-- a number that is no unique key's
pub no_key_released : (primary : List ℕ) (kept : Kept) (us : List Unique) (number : ℕ) (values : Key) → 1 ≤ number → length us < number
    → ReleasesSpot (seen_as primary kept us) (seen_as primary kept us) (number, values)
no_key_released primary kept us number values low high =
    spot_released primary kept kept us us (no_slots_lost kept) (no_entries_lost us) (number, values)
    (λ room. absurd (elim (in_room kept us (number, values) room) [
      | inl (other, same, slot, at) ↦ let none : number ≡ 0 = ap (λ (t : Spot). t.0) same in omega arith
      | inr h ↦ let e = h.number in let l = h.within in omega arith
    ]))
    (λ other differs has. has)

-- ---- of all tables

there : (ts : List TableContent) (i : ℕ) (t : TableContent) → i < length ts → t ≡ slice_index_or ts i t → slice_get ts i ≡ Some t
there ts i t within is = slice_get-get_or ts i t within ∙ ap Some (sym is)

not_there : (ts : List TableContent) (i : ℕ) → length ts ≤ i → slice_get ts i ≡ None
not_there [] i l = refl
not_there (t ∷ ts) zero l = absurd (omega arith)
not_there (t ∷ ts) (suc i) l = not_there ts i (omega arith)

set_same : (ts : List TableContent) (i : ℕ) (t : TableContent) → slice_get ts i ≡ Some t → slice_set ts i t ≡ ts
set_same [] i t at = refl
set_same (u ∷ ts) zero t at = let same : t ≡ u = cc in ap (λ (w : TableContent). w ∷ ts) same
set_same (u ∷ ts) (suc i) t at = ap (λ us. u ∷ us) (set_same ts i t at)

whole_apart : (table n : ℕ) (values : Key) → Whole table ≡ cell_of_key table n values → ⊥
whole_apart table zero values e = cc
whole_apart table (suc n) values e = cc

zero_apart : (table n : ℕ) (values others : Key) → Uniq table 0 values ≡ cell_of_key table n others → ⊥
zero_apart table zero values others e = cc
zero_apart table (suc n) values others e = let none : 0 ≡ suc n = cc in omega arith

-- a cell that the room doesn't have, where nothing changed
nothing_released : (seen : Content) (c : Cell) → (Contains seen.room c → ⊥) → ReleasesCell seen seen c
nothing_released seen c absent = record { schema = refl; rows = refl; gone = λ empty. absent; fewer = λ other has. has; others = λ other differs has. has }

-- a spot that a table gave up, as a cell
module _ (ts : List TableContent) (i : ℕ) (t new : TableContent) (at : slice_get ts i ≡ Some t) (s : Spot) where
  filled_cell : IsFilled t.keys t.rows s → IsEmptyCell (schema_of ts) (rows_of ts) (cell_at i s) → ⊥
  filled_cell filled empty =
      let table_is = table_of_cell i s in
      empty filled.0 filled.1 (ap (λ (n : ℕ). get (rows_of ts) (n, filled.0)) table_is ∙ get_is ts i t at filled.0 ∙ filled.2)
      (subst (λ (n : ℕ). Contains (cells_of (schema_of ts) n filled.1) (cell_at i s)) (sym table_is)
      (subst (λ (cs : List Cell). Contains cs (cell_at i s)) (sym (cells_are (schema_of ts) i filled.1))
      (subst (λ (k : TableKeys). Contains (map (cell_at i) (spots_of k filled.1)) (cell_at i s)) (sym (keys_is ts i t at))
      (contains_elem _ _ (elem_map (cell_at i) (spots_of t.keys filled.1) s (elem_contains _ _ filled.3))))))

  cell_released : ReleasesSpot t new s → ReleasesCell (gathered ts) (gathered (slice_set ts i new)) (cell_at i s)
  cell_released gives = record {
    schema = schema_after ts i t new at gives.keys;
    rows = rows_same ts i t at new gives.rows;
    gone = λ empty room. gives.gone (λ filled. filled_cell filled empty) (spot_in (slice_set ts i new) i new s (set_there ts i t new at) room);
    fewer = cells.room_fewer ts i t new at gives.fewer;
    others = λ c differs. cell_stays ts i t new at c (λ other is. gives.others other (λ e. differs (sym is ∙ ap (cell_at i) e)));
  }

uniq_released : (ts : List TableContent) (i : ℕ) (t new : TableContent) → slice_get ts i ≡ Some t → (number : ℕ) (values : Key)
    → (1 ≤ number → ReleasesSpot t new (number, values)) → (¬ ((1 ≤ number) × (number ≤ length t.keys.uniques)) → new ≡ t)
    → ReleasesCell (gathered ts) (gathered (slice_set ts i new)) (Uniq i number values)
uniq_released ts i t new at zero values gives same =
    subst (λ (us : List TableContent). ReleasesCell (gathered ts) (gathered us) (Uniq i 0 values))
    (sym (ap (slice_set ts i) (same (λ within. let l = within.0 in absurd (omega arith))) ∙ set_same ts i t at))
    (nothing_released (gathered ts) (Uniq i 0 values) (λ h. let p = table_of_room ts (Uniq i 0 values) h in zero_apart i p.2.0 values p.2.1 p.3))
uniq_released ts i t new at (suc n) values gives same = cell_released ts i t new at (suc n, values) (gives (omega arith))

-- as callers see it
module _ (ts : List TableContent) (seen : Content) (v : gathered ts ≡ seen) (cell : Cell) where
  as_seen : (c : Cell) → cell ≡ c → (after : Content) → ReleasesCell (gathered ts) after c → ReleasesCell seen after cell
  as_seen c is after gives =
      subst (λ (d : Cell). ReleasesCell seen after d) (sym is) (subst (λ (before : Content). ReleasesCell before after c) v gives)

  pub key_released : (i : ℕ) (key : Key) → cell ≡ Row i key → (t new : TableContent) → i < length ts → t ≡ slice_index_or ts i t
      → ReleasesSpot t new (0, key) → ReleasesCell seen (gathered (slice_set ts i new)) cell
  key_released i key is t new within value gives = as_seen (Row i key) is _ (cell_released ts i t new (there ts i t within value) (0, key) gives)

  pub values_released : (i number : ℕ) (values : Key) → cell ≡ Uniq i number values → (t new : TableContent) → i < length ts → t ≡ slice_index_or ts i t
      → (1 ≤ number → ReleasesSpot t new (number, values)) → (¬ ((1 ≤ number) × (number ≤ length t.keys.uniques)) → new ≡ t)
      → ReleasesCell seen (gathered (slice_set ts i new)) cell
  values_released i number values is t new within value gives same =
      as_seen (Uniq i number values) is _ (uniq_released ts i t new (there ts i t within value) number values gives same)

  -- a whole table's is in no room
  pub whole_released : (i : ℕ) → cell ≡ Whole i → ReleasesCell seen seen cell
  whole_released i is =
      subst (λ (after : Content). ReleasesCell seen after cell) v
      (as_seen (Whole i) is (gathered ts) (nothing_released (gathered ts) (Whole i) (λ h. let p = table_of_room ts (Whole i) h in whole_apart i p.2.0 p.2.1 p.3)))

  -- nor is one of a table that isn't there
  pub no_table_released : (i : ℕ) → table_of cell ≡ i → length ts ≤ i → ReleasesCell seen (gathered ts) cell
  no_table_released i is beyond =
      as_seen cell refl (gathered ts)
      (nothing_released (gathered ts) cell (λ h.
      let p = table_of_room ts cell h in
      let found : slice_get ts i ≡ Some p.0 = ap (slice_get ts) (sym is) ∙ p.1 in
      let none = not_there ts i beyond in
      cc))

  pub sound_released : (i : ℕ) (t new : TableContent) → i < length ts → t ≡ slice_index_or ts i t → AllSound ts → IsSound new → AllSound (slice_set ts i new)
  sound_released i t new within value all sound = sound_after ts i t new (there ts i t within value) all sound
