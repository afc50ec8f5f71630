-- A table after a change of its rows: its indexes, its columns and its room.
use Rattle.std.specs.Prelude.{◌≡◌, ◌≢◌, ℕ, suc, ◌<◌, List, [], ◌∷◌, length, Option, Some, None, refl, ◌⊎◌, slice_get, slice_index_or, IsSome, is_some, IfSome, IfNone, ◌≤◌, ◌-◌, unwrap_or, Bool, true, false, if◌then◌else◌}
use Rattle.std.proofs.Common.{zero, sym, ◌∙◌, ap, subst, inl, inr, arith, true≢false}
use Rattle.std.specs.Map.{lookup}
use Rattle.std.specs.List.{Contains, AllByRecursion}
use Rattle.std.specs.FinMap.{FinMap, get, insert, remove, empty, get-empty}
use Rattle.std.specs.Borrow.{Bor}
use Rattle.model.specs.Key.{key_cmp}
use Rattle.std.specs.Ordering.{eq_by_cmp}
use Rattle.model.specs.declared.key.Key.{Key}
use Rattle.model.specs.declared.row.Row.{Row}
use Rattle.model.specs.Rows.{TableKeys, values_in}
use Rattle.rows.specs.Kept.{Kept, KeepsSlots, IsNumbered}
use Rattle.rows.specs.KeyLemmas.{one_or_apart, get_inserted, get_beside_insert, get_removed, get_beside_remove, same_at_and_beside}
use Rattle.indexes.specs.declared.unique.Unique.{Unique}
use Rattle.indexes.specs.Unique as step
use Rattle.indexes.specs.Unique.{Entries, entry_at, held, held_by, with_number, number_in, Sets, Puts, EachStep, EachHasSlot, EachAgrees}
use Rattle.indexes.specs.Table.{Spot, spots_of, KeepsSpots, TableContent, NoClash, HasValues, IsDuplicate, IsSound, unique_at}
use Rattle.indexes.specs.Indexed.{IsIndex, IsIndexed, room_of, columns_of}
use Rattle.indexes.proofs.Entries.{sets_keep}
use Rattle.indexes.proofs.Indexing.{index_kept, index_filled, index_swapped, index_cleared}
use Rattle.indexes.proofs.Room.{key_spot, unique_spot, spot_of, key_in_room, entry_in_room, in_room, columns_at, column_within}

-- ---- columns

pub same_columns : (us vs : List Unique) → length vs ≡ length us
    → ((k : ℕ) (d : Unique) → k < length us → (slice_index_or vs k d).columns ≡ (slice_index_or us k d).columns) → columns_of vs ≡ columns_of us
same_columns [] [] long each = refl
same_columns [] (v ∷ vs) long each = absurd (omega arith)
same_columns (u ∷ us) [] long each = absurd (omega arith)
same_columns (u ∷ us) (v ∷ vs) long each =
    let first : v.columns ≡ u.columns = each 0 u (omega arith) in
    ap (λ c. c ∷ columns_of vs) first ∙ ap (λ cs. u.columns ∷ cs) (same_columns us vs (omega arith) (λ k d l. each (suc k) d (omega arith)))

-- ---- room

pub entries_after_set : (row : Row) (number : Option ℕ) (us vs : List Unique) → EachStep (Sets row number) us vs
    → (k : ℕ) (d : Unique) → k < length us → (values : Key) → IsSome (entry_at (slice_index_or us k d).entries values) → IsSome (entry_at (slice_index_or vs k d).entries values)
entries_after_set row number us vs steps k d l values some = sets_keep _ row number _ _ (steps.each k d l).entries values some

pub first_of : (us : List Unique) (i : ℕ) → i < length us → Unique
first_of [] i l = absurd (omega arith)
first_of (u ∷ us) i l = u

-- a spot stays in the room where its slot or its entry stays
pub spot_kept : (old new : Kept) (us vs : List Unique) (s : Spot)
    → ((number : ℕ) → s.0 ≡ 0 → get old.slots s.1 ≡ Some number → get new.slots s.1 ≡ Some number) → length vs ≡ length us
    → ((k : ℕ) (d : Unique) → k < length us → s.0 ≡ suc k → IsSome (entry_at (slice_index_or us k d).entries s.1) → IsSome (entry_at (slice_index_or vs k d).entries s.1))
    → Contains (room_of old us) s → Contains (room_of new vs) s
spot_kept old new us vs s slots long entries c = elim (in_room old us s c) [
  | inl (key, is, number, at) ↦
      let key_is : s.1 ≡ key = ap (λ (t : Spot). t.1) is in
      let stays = slots number (ap (λ (t : Spot). t.0) is) (ap (get old.slots) key_is ∙ at) in
      subst (λ (t : Spot). Contains (room_of new vs) t) (sym is) (key_in_room new vs key number (ap (get new.slots) (sym key_is) ∙ stays))
  | inr h ↦
      let number_is : suc h.i ≡ s.0 = let e = h.number in omega arith in
      let within : h.i < length vs = let l = h.within in omega arith in
      let u = first_of us h.i h.within in
      subst (λ (n : ℕ). Contains (room_of new vs) (n, s.1)) number_is
      (entry_in_room new vs h.i u s.1 within (entries h.i u h.within (sym number_is) (h.entry u)))
]

pub room_kept : (old new : Kept) (us vs : List Unique) → KeepsSlots old.slots new.slots → length vs ≡ length us
    → ((k : ℕ) (d : Unique) → k < length us → (values : Key) → IsSome (entry_at (slice_index_or us k d).entries values) → IsSome (entry_at (slice_index_or vs k d).entries values))
    → KeepsSpots (room_of old us) (room_of new vs)
room_kept old new us vs slots long entries s = spot_kept old new us vs s (λ number primary at. slots s.1 number at) long (λ k d l unique some. entries k d l s.1 some)

-- the key of a row that there is room for has a slot
pub slot_of_room : (keys : TableKeys) (kept : Kept) (us : List Unique) (row : Row) (key : Key) → values_in keys.primary row ≡ Some key
    → KeepsSpots (spots_of keys row) (room_of kept us) → (number : ℕ) × (get kept.slots key ≡ Some number)
slot_of_room keys kept us row key has room = elim (in_room kept us (0, key) (room (0, key) (key_spot keys row key has))) [
  | inl (other, is, number, at) ↦ (number, ap (get kept.slots) (ap (λ (t : Spot). t.1) is) ∙ at)
  | inr h ↦ absurd (let e = h.number in omega arith)
]

-- and each index has an entry for it
pub entries_of_room : (keys : TableKeys) (kept : Kept) (us : List Unique) (row : Row) → keys.uniques ≡ columns_of us
    → KeepsSpots (spots_of keys row) (room_of kept us) → EachHasSlot row us
entries_of_room keys kept us row is room k d l values has =
    let at : slice_get keys.uniques k ≡ Some (slice_index_or us k d).columns = ap (λ cs. slice_get cs k) is ∙ columns_at us k d l in
    elim (in_room kept us (suc k, values) (room (suc k, values) (unique_spot keys row k (slice_index_or us k d).columns values at has))) [
      | inl (other, same, number, there) ↦ absurd (let e : suc k ≡ 0 = ap (λ (t : Spot). t.0) same in omega arith)
      | inr h ↦
          let k_is : h.i ≡ k = let e = h.number in omega arith in
          subst (λ (n : ℕ). IsSome (entry_at (slice_index_or us n d).entries values)) k_is (h.entry d)
    ]

-- a row whose key has a slot, and for which each index has an entry, has room
pub room_for : (keys : TableKeys) (kept : Kept) (us : List Unique) (row : Row) (key : Key) (number : ℕ) → keys.uniques ≡ columns_of us
    → values_in keys.primary row ≡ Some key → get kept.slots key ≡ Some number → EachHasSlot row us → KeepsSpots (spots_of keys row) (room_of kept us)
room_for keys kept us row key number is has slot each s c = elim (spot_of keys row s c) [
  | inl (other, has_other, same) ↦
      let key_is : key ≡ other = cc in
      subst (λ (t : Spot). Contains (room_of kept us) t) (sym same) (key_in_room kept us other number (ap (get kept.slots) (sym key_is) ∙ slot))
  | inr o ↦
      let within = column_within us o.i o.columns (ap (λ cs. slice_get cs o.i) (sym is) ∙ o.at) in
      let number_is : suc o.i ≡ s.0 = let e = o.number in omega arith in
      subst (λ (n : ℕ). Contains (room_of kept us) (n, s.1)) number_is
      (entry_in_room kept us o.i within.1 s.1 within.0 (each o.i within.1 within.0 s.1 (ap (λ cs. values_in cs row) within.2 ∙ o.has)))
]

-- ---- indexes

pub indexed_kept : (primary : List ℕ) (old new : Kept) (us vs : List Unique) → IsIndexed primary old us
    → new.rows ≡ old.rows → KeepsSlots old.slots new.slots → IsNumbered new.slots → EachStep step.KeepsSlots us vs → IsIndexed primary new vs
indexed_kept primary old new us vs was rows slots numbered steps = record {
  own_key = λ key row at. was.own_key key row (ap (λ m. get m key) (sym rows) ∙ at);
  each = λ k d l.
      let within : k < length us = let e = steps.long in omega arith in
      let s = steps.each k d within in
      subst (λ (cs : List ℕ). IsIndex cs new (slice_index_or vs k d).entries) (sym s.columns)
      (index_kept _ old new _ _ (was.each k d within) was.slotted rows slots s.entries.numbers);
  numbered = numbered;
  slotted = λ key row at.
      let place = was.slotted key row (ap (λ m. get m key) (sym rows) ∙ at) in
      (place.0, slots key place.0 place.1);
}

-- no row has the values of one that may come
pub free_values : (keys : TableKeys) (primary : List ℕ) (kept : Kept) (us : List Unique) (row : Row) → keys.uniques ≡ columns_of us → IsIndexed primary kept us → NoClash keys kept.rows row
    → (k : ℕ) (d : Unique) → k < length us → (values : Key) → values_in (slice_index_or us k d).columns row ≡ Some values → held (slice_index_or us k d).entries values ≡ None
free_values keys primary kept us row is was clash k d l values has =
    elim (held (slice_index_or us k d).entries values) as (λ o. held (slice_index_or us k d).entries values ≡ o → held (slice_index_or us k d).entries values ≡ None) [
      | None ↦ λ e. e
      | Some number ↦ λ e.
          let h = (was.each k d l).only values number e in
          absurd (clash k (slice_index_or us k d).columns h.key values h.row (ap (λ cs. slice_get cs k) is ∙ columns_at us k d l) h.at h.has has)
    ] refl

number_written : (number : ℕ) (o : Option (Option ℕ)) → IsSome o → number_in (with_number (Some number) o) ≡ Some number
number_written number None some = absurd cc
number_written number (Some before) some = refl

-- a number that is set where there is an entry comes there
pub sets_put : (row : Row) (number : ℕ) (us vs : List Unique) → EachHasSlot row us → EachStep (Sets row (Some number)) us vs → EachStep (Puts row number) us vs
sets_put row number us vs entry steps = record {
  long = steps.long;
  each = λ k d l.
      let s = steps.each k d l in
      record {
        columns = s.columns;
        entries = record {
          here = λ values has. ap number_in (s.entries.here values has) ∙ number_written number (entry_at (slice_index_or us k d).entries values) (entry k d l values has);
          beside = λ values has_not. ap number_in (s.entries.beside values has_not);
          entries = sets_keep _ row (Some number) _ _ s.entries;
        };
      };
}

held_entry : (entries : Entries) (values : Key) (number : ℕ) → held entries values ≡ Some number → IsSome (entry_at entries values)
held_entry entries values number e = by_entry (entry_at entries values) e
  where
    by_entry : (o : Option (Option ℕ)) → number_in o ≡ Some number → IsSome o
    by_entry None e = absurd cc
    by_entry (Some b) e = refl

-- where it came there is an entry
pub entries_of_puts : (row : Row) (number : ℕ) (us vs : List Unique) → EachStep (Puts row number) us vs → EachHasSlot row vs
entries_of_puts row number us vs steps k d l values has =
    let within : k < length us = let e = steps.long in omega arith in
    let s = steps.each k d within in
    held_entry (slice_index_or vs k d).entries values number (s.entries.here values (ap (λ cs. values_in cs row) (sym s.columns) ∙ has))

-- each row stands at its key, also where one came
own_inserted : (primary : List ℕ) (rows : FinMap key_cmp Row) → ((other : Key) (there : Row) → get rows other ≡ Some there → values_in primary there ≡ Some other)
    → (key : Key) (row : Row) → values_in primary row ≡ Some key → (other : Key) (there : Row) → get (insert rows key row) other ≡ Some there
    → values_in primary there ≡ Some other
own_inserted primary rows was key row own other there at = elim (one_or_apart key other) [
  | inl same ↦
      let now : get (insert rows key row) other ≡ Some row = subst (λ (k : Key). get (insert rows key row) k ≡ Some row) same (get_inserted rows key row) in
      let row_is : row ≡ there = cc in
      ap (values_in primary) (sym row_is) ∙ own ∙ ap Some same
  | inr apart ↦ was other there (sym (get_beside_insert rows key row other apart) ∙ at)
]

pub indexed_filled : (primary : List ℕ) (kept : Kept) (us vs : List Unique) (key : Key) (row : Row) (number : ℕ) → IsIndexed primary kept us
    → values_in primary row ≡ Some key → get kept.slots key ≡ Some number → get kept.rows key ≡ None
    → ((k : ℕ) (d : Unique) → k < length us → (values : Key) → values_in (slice_index_or us k d).columns row ≡ Some values → held (slice_index_or us k d).entries values ≡ None)
    → EachStep (Puts row number) us vs → IsIndexed primary (record { rows = insert kept.rows key row; slots = kept.slots }) vs
indexed_filled primary kept us vs key row number was own slot absent free steps = record {
  own_key = own_inserted primary kept.rows was.own_key key row own;
  each = λ k d l.
      let within : k < length us = let e = steps.long in omega arith in
      let s = steps.each k d within in
      subst (λ (cs : List ℕ). IsIndex cs (record { rows = insert kept.rows key row; slots = kept.slots }) (slice_index_or vs k d).entries) (sym s.columns)
      (index_filled _ kept _ _ (was.each k d within) key row number slot absent (free k d within) s.entries);
  numbered = was.numbered;
  slotted = λ other there at. elim (one_or_apart key other) [
    | inl same ↦ (number, ap (get kept.slots) (sym same) ∙ slot)
    | inr apart ↦ was.slotted other there (sym (get_beside_insert kept.rows key row other apart) ∙ at)
  ];
}

pub indexed_cleared : (primary : List ℕ) (kept : Kept) (us vs : List Unique) (key : Key) (row : Row) → IsIndexed primary kept us
    → get kept.rows key ≡ Some row → EachStep (Sets row None) us vs → IsIndexed primary (record { rows = remove kept.rows key; slots = kept.slots }) vs
indexed_cleared primary kept us vs key row was there steps =
    let before : (other : Key) (duplicate : Row) → get (remove kept.rows key) other ≡ Some duplicate → get kept.rows other ≡ Some duplicate = λ other duplicate at. elim (one_or_apart key other) [
      | inl same ↦ absurd (let gone : get (remove kept.rows key) other ≡ None = subst (λ (k : Key). get (remove kept.rows key) k ≡ None) same (get_removed kept.rows key) in cc)
      | inr apart ↦ sym (get_beside_remove kept.rows key other apart) ∙ at
    ] in
    record {
      own_key = λ other duplicate at. was.own_key other duplicate (before other duplicate at);
      each = λ k d l.
          let within : k < length us = let e = steps.long in omega arith in
          let s = steps.each k d within in
          subst (λ (cs : List ℕ). IsIndex cs (record { rows = remove kept.rows key; slots = kept.slots }) (slice_index_or vs k d).entries) (sym s.columns)
          (index_cleared _ kept _ _ (was.each k d within) key row was.numbered was.slotted there s.entries);
      numbered = was.numbered;
      slotted = λ other duplicate at. was.slotted other duplicate (before other duplicate at);
    }

pub indexed_swapped : (primary : List ℕ) (kept : Kept) (us : List Unique) (key : Key) (row stood : Row) → IsIndexed primary kept us
    → values_in primary row ≡ Some key → get kept.rows key ≡ Some stood → EachAgrees row stood us
    → IsIndexed primary (record { rows = insert kept.rows key row; slots = kept.slots }) us
indexed_swapped primary kept us key row stood was own there agrees = record {
  own_key = own_inserted primary kept.rows was.own_key key row own;
  each = λ k d l. index_swapped (slice_index_or us k d).columns kept (slice_index_or us k d).entries (slice_index_or us k d).entries (was.each k d l) key row stood there (agrees k d l);
  numbered = was.numbered;
  slotted = λ other found at. elim (one_or_apart key other) [
    | inl same ↦ let place = was.slotted key stood there in (place.0, ap (get kept.slots) (sym same) ∙ place.1)
    | inr apart ↦ was.slotted other found (sym (get_beside_insert kept.rows key row other apart) ∙ at)
  ];
}

-- rows that agree in each index agree in each unique key
pub agree_in_keys : (us : List Unique) (row stood : Row) → EachAgrees row stood us
    → (i : ℕ) (columns : List ℕ) → slice_get (columns_of us) i ≡ Some columns → values_in columns row ≡ values_in columns stood
agree_in_keys us row stood agrees i columns at =
    let within = column_within us i columns at in
    ap (λ cs. values_in cs row) (sym within.2) ∙ agrees i within.1 within.0 ∙ ap (λ cs. values_in cs stood) within.2

-- a row that is put in the place of one at its key
pub put_in_place : (rows : FinMap key_cmp Row) (key new_key : Key) (row : Row) → key ≡ new_key → insert rows key row ≡ insert (remove rows key) new_key row
put_in_place rows key new_key row same =
    subst (λ (k : Key). insert rows key row ≡ insert (remove rows key) k row) same
    (same_at_and_beside _ _ key (get_inserted rows key row ∙ sym (get_inserted (remove rows key) key row))
    (λ other apart. get_beside_insert rows key row other apart ∙ sym (get_beside_remove rows key other apart) ∙ sym (get_beside_insert (remove rows key) key row other apart)))

-- ---- soundness

pub sound : (keys : TableKeys) (kept : Kept) (us : List Unique) → keys.uniques ≡ columns_of us → IsIndexed keys.primary kept us
    → IsSound (record { keys = keys; rows = kept.rows; room = room_of kept us })
sound keys kept us is was = record {
  own_key = was.own_key;
  unique = λ i columns key other row duplicate values at here there has too.
      let within = column_within us i columns (ap (λ cs. slice_get cs i) (sym is) ∙ at) in
      let index = was.each i within.1 within.0 in
      let mine = was.slotted key row here in
      let yours = was.slotted other duplicate there in
      let one = index.holds key row values mine.0 here mine.1 (ap (λ cs. values_in cs row) within.2 ∙ has) in
      let two = index.holds other duplicate values yours.0 there yours.1 (ap (λ cs. values_in cs duplicate) within.2 ∙ too) in
      let same : yours.0 ≡ mine.0 = cc in
      was.numbered key other mine.0 mine.1 (yours.1 ∙ ap Some same);
  room = λ key row at.
      let place = was.slotted key row at in
      room_for keys kept us row key place.0 is (was.own_key key row at) place.1
      (λ k d l values has. held_entry (slice_index_or us k d).entries values place.0 ((was.each k d l).holds key row values place.0 at place.1 has));
}

-- ---- parts

pub kept_is : (kept : Kept) (rows : FinMap key_cmp Row) (slots : FinMap key_cmp ℕ) → kept.rows ≡ rows → kept.slots ≡ slots → kept ≡ record { rows = rows; slots = slots }
kept_is kept rows slots e f = λ i. record { rows = e i; slots = f i }

pub itself : (us : List Unique) → EachStep step.KeepsSlots us us
itself us = record { long = refl; each = λ k d l. record { columns = refl; entries = record { numbers = λ values. refl; entries = λ values some. some } } }

-- ---- parts, as callers see them

-- a table of these parts
abbrev pub table_of : List ℕ → Kept → List Unique → TableContent
table_of primary kept us = record { keys = record { primary = primary; uniques = columns_of us }; rows = kept.rows; room = room_of kept us }

module _ (primary : List ℕ) (old new : Kept) (us vs : List Unique) (t : TableContent) (v : table_of primary old us ≡ t) where
  pub keys_stay : length vs ≡ length us
      → ((k : ℕ) (d : Unique) → k < length us → (slice_index_or vs k d).columns ≡ (slice_index_or us k d).columns)
      → (table_of primary new vs).keys ≡ t.keys
  keys_stay long columns =
      ap (λ (cs : List (List ℕ)). let keys : TableKeys = record { primary = primary; uniques = cs } in keys) (same_columns us vs long columns) ∙ ap (λ (s : TableContent). s.keys) v

  room_stays : KeepsSlots old.slots new.slots → length vs ≡ length us
      → ((k : ℕ) (d : Unique) → k < length us → (values : Key) → IsSome (entry_at (slice_index_or us k d).entries values) → IsSome (entry_at (slice_index_or vs k d).entries values))
      → KeepsSpots t.room (room_of new vs)
  room_stays slots long entries s has = room_kept old new us vs slots long entries s (subst (λ (t : TableContent). Contains t.room s) (sym v) has)

  -- what a call leaves that sets entries of a row: no key changes, no room goes, and the table is sound
  pub left_set : (row : Row) (number : Option ℕ) → new.slots ≡ old.slots → EachStep (Sets row number) us vs → IsIndexed primary new vs
      → record { keys : (table_of primary new vs).keys ≡ t.keys; kept : KeepsSpots t.room (room_of new vs); sound : IsSound (table_of primary new vs) }
  left_set row number slots steps indexed = record {
    keys = keys_stay steps.long (λ k d l. (steps.each k d l).columns);
    kept = room_stays (λ key number at. ap (λ m. get m key) slots ∙ at) steps.long (entries_after_set row number us vs steps);
    sound = sound (table_of primary new vs).keys new vs refl indexed;
  }

  -- the same of one that puts a row in its entries
  pub left_put : (row : Row) (number : ℕ) → KeepsSlots old.slots new.slots → EachStep (Puts row number) us vs → IsIndexed primary new vs
      → record { keys : (table_of primary new vs).keys ≡ t.keys; kept : KeepsSpots t.room (room_of new vs); sound : IsSound (table_of primary new vs) }
  left_put row number slots steps indexed = record {
    keys = keys_stay steps.long (λ k d l. (steps.each k d l).columns);
    kept = room_stays slots steps.long (λ k d l. (steps.each k d l).entries.entries);
    sound = sound (table_of primary new vs).keys new vs refl indexed;
  }

  -- the same of one that makes slots and entries, which no row comes into
  pub left_made : new.rows ≡ old.rows → KeepsSlots old.slots new.slots → EachStep step.KeepsSlots us vs → IsIndexed primary new vs
      → record {
        keys : (table_of primary new vs).keys ≡ t.keys;
        rows : new.rows ≡ t.rows;
        kept : KeepsSpots t.room (room_of new vs);
        sound : IsSound (table_of primary new vs);
      }
  left_made rows slots steps indexed = record {
    keys = keys_stay steps.long (λ k d l. (steps.each k d l).columns);
    rows = rows ∙ ap (λ (s : TableContent). s.rows) v;
    kept = room_stays slots steps.long (λ k d l. (steps.each k d l).entries.entries);
    sound = sound (table_of primary new vs).keys new vs refl indexed;
  }

  -- the same of one that makes room, and no slot
  pub left_widened : new ≡ old → EachStep step.KeepsSlots us vs → IsIndexed primary old us
      → record {
        keys : (table_of primary new vs).keys ≡ t.keys;
        rows : new.rows ≡ t.rows;
        kept : KeepsSpots t.room (room_of new vs);
        sound : IsSound (table_of primary new vs);
      }
  left_widened same steps was =
      let rows : new.rows ≡ old.rows = ap (λ (k : Kept). k.rows) same in
      let slots : KeepsSlots old.slots new.slots = λ key number at. ap (λ (k : Kept). get k.slots key) same ∙ at in
      let numbered = subst (λ (k : Kept). IsNumbered k.slots) (sym same) was.numbered in
      left_made rows slots steps (indexed_kept primary old new us vs was rows slots numbered steps)

-- ---- look-ups

-- what a look-up finds: a key of which this is true, or there is none
abbrev pub Finds : (Key → Type 0) → Option (Bor Key) → Type 0
Finds Has r = record { found : IfSome r (λ key. Has key.now); missed : IfNone r ((key : Key) → ¬ Has key) }

found_values : (primary : List ℕ) (kept : Kept) (us : List Unique) → IsIndexed primary kept us → (k : ℕ) (d : Unique) → k < length us → (columns : List ℕ) → columns ≡ (slice_index_or us k d).columns
    → (values : Key) (number : ℕ) → Some number ≡ held (slice_index_or us k d).entries values
    → (r : Option (Bor Key)) → IfSome r (λ key. get kept.slots key.now ≡ Some number) → IfSome r (λ key. HasValues kept.rows columns key.now values)
found_values primary kept us was k d l columns is values number e None at = tt
found_values primary kept us was k d l columns is values number e (Some key) at =
    let h = (was.each k d l).only values number (sym e) in
    let same = was.numbered h.key key.now number h.slot at in
    (h.row, ap (get kept.rows) (sym same) ∙ h.at, ap (λ cs. values_in cs h.row) is ∙ h.has)

missed_slot : (primary : List ℕ) (kept : Kept) (us : List Unique) → IsIndexed primary kept us → (k : ℕ) (d : Unique) → k < length us
    → (values : Key) (number : ℕ) → Some number ≡ held (slice_index_or us k d).entries values
    → (P : Type 0) (r : Option (Bor Key)) → IfNone r ((key : Key) → get kept.slots key ≢ Some number) → IfNone r P
missed_slot primary kept us was k d l values number e P None none =
    let h = (was.each k d l).only values number (sym e) in absurd (none h.key h.slot)
missed_slot primary kept us was k d l values number e P (Some key) none = tt

missed_values : (primary : List ℕ) (kept : Kept) (us : List Unique) → IsIndexed primary kept us → (k : ℕ) (d : Unique) → k < length us → (columns : List ℕ) → columns ≡ (slice_index_or us k d).columns
    → (values : Key) → None ≡ held (slice_index_or us k d).entries values → (key : Key) → ¬ HasValues kept.rows columns key values
missed_values primary kept us was k d l columns is values e key has =
    let place = was.slotted key has.0 has.1 in
    let there = (was.each k d l).holds key has.0 values place.0 has.1 place.1 (ap (λ cs. values_in cs has.0) (sym is) ∙ has.2) in
    cc

-- ---- look-ups by a row

values_of_duplicate : (entries : Entries) (o : Option Key) (number : ℕ) → Some number ≡ held_by entries o → (values : Key) × (o ≡ Some values) × (Some number ≡ held entries values)
values_of_duplicate entries None number e = absurd cc
values_of_duplicate entries (Some values) number e = (values, refl, e)

no_duplicate_held : (entries : Entries) (o : Option Key) (values : Key) → o ≡ Some values → None ≡ held_by entries o → None ≡ held entries values
no_duplicate_held entries o values is e = e ∙ ap (held_by entries) is

module _ (primary : List ℕ) (kept : Kept) (us : List Unique) (was : IsIndexed primary kept us) (k : ℕ) (d : Unique) (below : k < length us)
    (columns : List ℕ) (is : columns ≡ (slice_index_or us k d).columns) (row : Row) where
  own_values : (values : Key) → values_in (slice_index_or us k d).columns row ≡ Some values → values_in columns row ≡ Some values
  own_values values has = ap (λ cs. values_in cs row) is ∙ has

  has_duplicate : (values : Key) → values_in columns row ≡ Some values → (r : Option (Bor Key)) → IfSome r (λ key. HasValues kept.rows columns key.now values) → IfSome r (λ key. IsDuplicate kept.rows columns key.now row)
  has_duplicate values has None at = tt
  has_duplicate values has (Some key) at = (values, has, at)

  module _ (number : ℕ) (e : Some number ≡ held_by (slice_index_or us k d).entries (values_in (slice_index_or us k d).columns row)) (r : Option (Bor Key)) where
    found_duplicate : IfSome r (λ key. get kept.slots key.now ≡ Some number) → IfSome r (λ key. IsDuplicate kept.rows columns key.now row)
    found_duplicate at =
        let v = values_of_duplicate (slice_index_or us k d).entries (values_in (slice_index_or us k d).columns row) number e in
        has_duplicate v.0 (own_values v.0 v.1) r (found_values primary kept us was k d below columns is v.0 number v.2 r at)

    missed_duplicate : (P : Type 0) → IfNone r ((key : Key) → get kept.slots key ≢ Some number) → IfNone r P
    missed_duplicate P none =
        let v = values_of_duplicate (slice_index_or us k d).entries (values_in (slice_index_or us k d).columns row) number e in
        missed_slot primary kept us was k d below v.0 number v.2 P r none

  no_duplicate : None ≡ held_by (slice_index_or us k d).entries (values_in (slice_index_or us k d).columns row) → (key : Key) → ¬ IsDuplicate kept.rows columns key row
  no_duplicate e key duplicate =
      let has : values_in (slice_index_or us k d).columns row ≡ Some duplicate.0 = ap (λ cs. values_in cs row) (sym is) ∙ duplicate.1 in
      missed_values primary kept us was k d below columns is duplicate.0 (no_duplicate_held (slice_index_or us k d).entries (values_in (slice_index_or us k d).columns row) duplicate.0 has e) key duplicate.2

columns_is : (us : List Unique) (number : ℕ) (d : Unique) → 1 ≤ number → number ≤ length us → unwrap_or (slice_get (columns_of us) (number - 1)) [] ≡ (slice_index_or us (number - 1) d).columns
columns_is us number d low high = ap (λ o. unwrap_or o []) (columns_at us (number - 1) d (omega arith))

columns_length : (us : List Unique) → length (columns_of us) ≡ length us
columns_length [] = refl
columns_length (u ∷ us) = ap suc (columns_length us)

within_columns : (us : List Unique) (number : ℕ) → 1 ≤ number → number ≤ length (columns_of us) → (number - 1 < length us) × (number ≤ length us)
within_columns us number low high = let e = columns_length us in (omega arith, omega arith)

-- in the unique key of a number, as callers see the table
module _ (primary : List ℕ) (kept : Kept) (us : List Unique) (was : IsIndexed primary kept us) (t : TableContent) (v : table_of primary kept us ≡ t)
    (number : ℕ) (asked : (1 ≤ number) × (number ≤ length t.keys.uniques)) (u : Unique) (is : u ≡ slice_index_or us (number - 1) u) where
  range : (1 ≤ number) × (number ≤ length (columns_of us))
  range = subst (λ (t : TableContent). (1 ≤ number) × (number ≤ length t.keys.uniques)) (sym v) asked

  below : number - 1 < length us
  below = (within_columns us number range.0 range.1).0

  own_columns : unique_at (table_of primary kept us).keys number ≡ (slice_index_or us (number - 1) u).columns
  own_columns = columns_is us number u range.0 (within_columns us number range.0 range.1).1

  module _ (values : Key) where
    own_held : (o : Option ℕ) → o ≡ held u.entries values → o ≡ held (slice_index_or us (number - 1) u).entries values
    own_held o e = e ∙ ap (λ (w : Unique). held w.entries values) is

    -- the key in a slot that was found is of a row with the values, and there is one
    pub slot_has_values : (slot : ℕ) → Some slot ≡ held u.entries values → (r : Option (Bor Key))
        → Finds (λ key. get kept.slots key ≡ Some slot) r → Finds (λ key. HasValues t.rows (unique_at t.keys number) key values) r
    slot_has_values slot e r told = record {
      found =
          subst (λ (t : TableContent). IfSome r (λ (key : Bor Key). HasValues t.rows (unique_at t.keys number) key.now values)) v
          (found_values primary kept us was (number - 1) u below _ own_columns values slot (own_held (Some slot) e) r told.found);
      missed = missed_slot primary kept us was (number - 1) u below values slot (own_held (Some slot) e) _ r told.missed;
    }

    -- where none was found no row has them
    pub none_has_values : None ≡ held u.entries values → (key : Key) → ¬ HasValues t.rows (unique_at t.keys number) key values
    none_has_values e key has =
        missed_values primary kept us was (number - 1) u below _ own_columns values (own_held None e) key
        (subst (λ (t : TableContent). HasValues t.rows (unique_at t.keys number) key values) (sym v) has)

  -- the same of a row's values
  module _ (row : Row) where
    held_of_row : (o : Option ℕ) → o ≡ held_by u.entries (values_in u.columns row)
        → o ≡ held_by (slice_index_or us (number - 1) u).entries (values_in (slice_index_or us (number - 1) u).columns row)
    held_of_row o e = e ∙ ap (λ (w : Unique). held_by w.entries (values_in w.columns row)) is

    pub slot_has_duplicate : (slot : ℕ) → Some slot ≡ held_by u.entries (values_in u.columns row) → (r : Option (Bor Key))
        → Finds (λ key. get kept.slots key ≡ Some slot) r → Finds (λ key. IsDuplicate t.rows (unique_at t.keys number) key row) r
    slot_has_duplicate slot e r told = record {
      found =
          subst (λ (t : TableContent). IfSome r (λ (key : Bor Key). IsDuplicate t.rows (unique_at t.keys number) key.now row)) v
          (found_duplicate primary kept us was (number - 1) u below _ own_columns row slot (held_of_row (Some slot) e) r told.found);
      missed = missed_duplicate primary kept us was (number - 1) u below _ own_columns row slot (held_of_row (Some slot) e) r _ told.missed;
    }

    pub none_is_duplicate : None ≡ held_by u.entries (values_in u.columns row) → (key : Key) → ¬ IsDuplicate t.rows (unique_at t.keys number) key row
    none_is_duplicate e key duplicate =
        no_duplicate primary kept us was (number - 1) u below _ own_columns row (held_of_row None e) key
        (subst (λ (t : TableContent). IsDuplicate t.rows (unique_at t.keys number) key row) (sym v) duplicate)

-- ---- an empty table

none_at : (us : List Unique) → AllByRecursion step.HasNone us → (k : ℕ) (d : Unique) → k < length us → step.HasNone (slice_index_or us k d)
none_at [] all k d l = absurd (omega arith)
none_at (u ∷ us) all zero d l = all.0
none_at (u ∷ us) all (suc k) d l = none_at us all.1 k d (omega arith)

held_none : (u : Unique) → step.HasNone u → (values : Key) → held u.entries values ≡ None
held_none u none values = ap (λ es. number_in (lookup (eq_by_cmp key_cmp values) es)) none

pub indexed_empty : (primary : List ℕ) (us : List Unique) → AllByRecursion step.HasNone us → IsIndexed primary (record { rows = empty; slots = empty }) us
indexed_empty primary us all =
    let no_row : (key : Key) (row : Row) → get (empty {X = Row} {R = key_cmp}) key ≡ Some row → ⊥ = λ key row e. let none = get-empty {X = Row} key_cmp key in absurd cc in
    record {
      own_key = λ key row e. absurd (no_row key row e);
      each = λ k d l. record {
        holds = λ key row values number e slot has. absurd (no_row key row e);
        only = λ values number e. absurd (let none = held_none (slice_index_or us k d) (none_at us all k d l) values in cc);
      };
      numbered = λ key other number e f. absurd (let none = get-empty {X = ℕ} key_cmp key in cc);
      slotted = λ key row e. absurd (no_row key row e);
    }

-- ---- empty slots and entries that go

-- no row changes, no slot comes, and none goes that a row is in
pub record LosesSlots (old new : Kept) : Type 0 where
  pub rows : new.rows ≡ old.rows
  pub filled : (key : Key) (number : ℕ) → IsSome (get old.rows key) → get old.slots key ≡ Some number → get new.slots key ≡ Some number
  pub fewer : (key : Key) (number : ℕ) → get new.slots key ≡ Some number → get old.slots key ≡ Some number

-- no number in the index changes, and no entry comes
pub record LosesEntries (old new : Unique) : Type 0 where
  pub columns : new.columns ≡ old.columns
  pub numbers : (values : Key) → held new.entries values ≡ held old.entries values
  pub fewer : (values : Key) → IsSome (entry_at new.entries values) → IsSome (entry_at old.entries values)

pub nothing_lost : (u : Unique) → LosesEntries u u
nothing_lost u = record { columns = refl; numbers = λ values. refl; fewer = λ values some. some }

module _ (old new : Kept) (us vs : List Unique) (slots : LosesSlots old new) (steps : EachStep LosesEntries us vs) where
  pub columns_stay : columns_of vs ≡ columns_of us
  columns_stay = same_columns us vs steps.long (λ k d l. (steps.each k d l).columns)

  -- each index is still of the rows
  pub indexed_fewer : (primary : List ℕ) → IsIndexed primary old us → IsIndexed primary new vs
  indexed_fewer primary was = record {
    own_key = λ other there at. was.own_key other there (ap (λ m. get m other) (sym slots.rows) ∙ at);
    each = λ k d l.
        let within : k < length us = let e = steps.long in omega arith in
        let s = steps.each k d within in
        let index = was.each k d within in
        subst (λ (cs : List ℕ). IsIndex cs new (slice_index_or vs k d).entries) (sym s.columns)
        (record {
          holds = λ other there values number at slot has.
              s.numbers values ∙ index.holds other there values number (ap (λ m. get m other) (sym slots.rows) ∙ at) (slots.fewer other number slot) has;
          only = λ values number e.
              let h = index.only values number (sym (s.numbers values) ∙ e) in
              record { key = h.key; row = h.row; slot = slots.filled h.key number (ap is_some h.at) h.slot; at = ap (λ m. get m h.key) slots.rows ∙ h.at; has = h.has };
        });
    numbered = λ one other number e f. was.numbered one other number (slots.fewer one number e) (slots.fewer other number f);
    slotted = λ other there at.
        let before = ap (λ m. get m other) (sym slots.rows) ∙ at in
        let place = was.slotted other there before in
        (place.0, slots.filled other place.0 (ap is_some before) place.1);
  }

  -- no spot comes
  pub room_fewer : KeepsSpots (room_of new vs) (room_of old us)
  room_fewer =
      room_kept new old vs us slots.fewer (sym steps.long)
      (λ k d l values some. let within : k < length us = let e = steps.long in omega arith in (steps.each k d within).fewer values some)

-- ---- settling

entries_settled : (us vs : List Unique) (row : Row) → EachStep (step.Settles row) us vs → EachStep LosesEntries us vs
entries_settled us vs row steps = record {
  long = steps.long;
  each = λ k d l. let s = steps.each k d l in record { columns = s.columns; numbers = s.entries.numbers; fewer = s.entries.fewer };
}

module _ (old new : Kept) (key : Key) (rows : new.rows ≡ old.rows) (slots : new.slots ≡ if is_some (get old.rows key) then old.slots else remove old.slots key) where
  by_row : (filled : Bool) → is_some (get old.rows key) ≡ filled → new.slots ≡ if filled then old.slots else remove old.slots key
  by_row filled is = slots ∙ ap (λ b. if b then old.slots else remove old.slots key) is

  pub slot_stays : (other : Key) (number : ℕ) → ((is_some (get old.rows other) ≡ true) ⊎ (key ≢ other)) → get old.slots other ≡ Some number → get new.slots other ≡ Some number
  slot_stays other number why at =
      elim (is_some (get old.rows key)) as (λ b. is_some (get old.rows key) ≡ b → get new.slots other ≡ Some number) [
        | true ↦ λ is. ap (λ m. get m other) (by_row true is) ∙ at
        | false ↦ λ is. ap (λ m. get m other) (by_row false is) ∙ elim (one_or_apart key other) [
          | inl same ↦ absurd (elim why [
            | inl filled ↦ true≢false (sym filled ∙ ap (λ (k : Key). is_some (get old.rows k)) (sym same) ∙ is)
            | inr differs ↦ differs same
          ])
          | inr apart ↦ get_beside_remove old.slots key other apart ∙ at
        ]
      ] refl

  slot_was : (other : Key) (number : ℕ) → get new.slots other ≡ Some number → get old.slots other ≡ Some number
  slot_was other number at =
      elim (is_some (get old.rows key)) as (λ b. is_some (get old.rows key) ≡ b → get old.slots other ≡ Some number) [
        | true ↦ λ is. ap (λ m. get m other) (sym (by_row true is)) ∙ at
        | false ↦ λ is.
            let there = ap (λ m. get m other) (sym (by_row false is)) ∙ at in
            elim (one_or_apart key other) [
              | inl same ↦ absurd (let gone : get (remove old.slots key) other ≡ None = subst (λ (k : Key). get (remove old.slots key) k ≡ None) same (get_removed old.slots key) in cc)
              | inr apart ↦ sym (get_beside_remove old.slots key other apart) ∙ there
            ]
      ] refl

  pub slots_settled : LosesSlots old new
  slots_settled = record { rows = rows; filled = λ other number filled at. slot_stays other number (inl filled) at; fewer = slot_was }

  -- the spot of a key that isn't settled stays
  pub key_stays : (s : Spot) → s ≢ (0, key) → (number : ℕ) → s.0 ≡ 0 → get old.slots s.1 ≡ Some number → get new.slots s.1 ≡ Some number
  key_stays s differs number primary = slot_stays s.1 number (inr (λ same. differs (λ i. (primary i, sym same i))))

  pub indexed_settled : (primary : List ℕ) (us vs : List Unique) (row : Row) → IsIndexed primary old us → EachStep (step.Settles row) us vs → IsIndexed primary new vs
  indexed_settled primary us vs row was steps = indexed_fewer old new us vs slots_settled (entries_settled us vs row steps) primary was

  -- no spot comes
  pub settled_fewer : (us vs : List Unique) (row : Row) → EachStep (step.Settles row) us vs → KeepsSpots (room_of new vs) (room_of old us)
  settled_fewer us vs row steps = room_fewer old new us vs slots_settled (entries_settled us vs row steps)

  pub room_settled : (keys : TableKeys) (us vs : List Unique) (row : Row) → keys.uniques ≡ columns_of us → EachStep (step.Settles row) us vs
      → (s : Spot) → ¬ Contains (spots_of keys row) s → s ≢ (0, key) → Contains (room_of old us) s → Contains (room_of new vs) s
  room_settled keys us vs row is steps s not_row not_key =
      spot_kept old new us vs s (key_stays s not_key) steps.long
      (λ k d l number some.
      let differs : values_in (slice_index_or us k d).columns row ≢ Some s.1 =
      λ e. not_row (subst (λ (n : ℕ). Contains (spots_of keys row) (n, s.1)) (sym number)
      (unique_spot keys row k (slice_index_or us k d).columns s.1 (ap (λ cs. slice_get cs k) is ∙ columns_at us k d l) e)) in
      ap is_some ((steps.each k d l).entries.beside s.1 differs) ∙ some)
