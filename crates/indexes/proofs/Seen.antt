-- One table among all as callers see them: what it needs of a requirement, and what its change does.
use Rattle.std.specs.Prelude.{◌≡◌, ◌≢◌, ℕ, suc, ◌+◌, ◌<◌, Bool, true, false, if◌then◌else◌, List, [], ◌∷◌, ◌++◌, length, map, Option, Some, None, refl, slice_get, slice_set, slice_index_or, IsSome, is_some, IfSome, IfNone, Result, Ok, Err, OnOk, OnErr}
use Rattle.std.proofs.Common.{zero, sym, ◌∙◌, ap, subst, arith, inl, inr}
use Rattle.std.specs.List.{Contains, AllByRecursion}
use Rattle.std.specs.Borrow.{Bor}
use Rattle.std.specs.FinMap.{FinMap, get, insert, remove, empty, from_entries, entries, values, len-empty, len-entries}
use Rattle.std.proofs.lemmas.Bool.{cases_Bool}
use Rattle.std.proofs.lemmas.Option.{slice_get-get_or}
use Rattle.std.proofs.lemmas.Result.{on_ok_weaker, on_err_weaker}
use Rattle.model.specs.declared.key.Key.{Key}
use Rattle.model.specs.declared.row.Row.{Row as Record}
use Rattle.model.specs.declared.cell.Cell.{Cell}
use Rattle.model.specs.declared.cell.Cell.TheVariants.{Row}
use Rattle.model.specs.Key.{key_cmp}
use Rattle.model.specs.Rows.{Rows, TableKeys, place_cmp, values_in, key_of, keys_at, are_taken, IsValid}
use Rattle.model.specs.Cells.{cells_of, table_of}
use Rattle.model.specs.Effect.{first_taken, are_taken_unless_null}
use Rattle.model.specs.TableRows.{rows_of_table}
use Rattle.model.specs.TakenLemmas.{taken_by_row, row_of_taken, first_taken_free}
use Rattle.indexes.specs.declared.refused.Refused.{Refused}
use Rattle.indexes.specs.declared.refused.Refused.TheVariants.{Taken, OutOfMemory}
use Rattle.indexes.specs.Refused.{Tells}
use Rattle.indexes.specs.Table.{Spot, TableContent, spots_of, KeepsSpots, NoClash, HasValues, IsDuplicate, IsTaken, TellsTaken, IsSound, unique_at, cell_at, cells_in}
use Rattle.indexes.specs.Content.{Content, least_taken, KeepsCells, HasRoom, unique_columns, IsTable, SameElsewhere, SameRoomElsewhere}
use Rattle.indexes.specs.Gathered.{placed, rows_of, cells_from, schema_of, gathered, AllSound, IsNew}
use Rattle.indexes.proofs.Elements.{contains_elem, elem_contains, elem_map}
use Rattle.indexes.proofs.Gather.{sound_after, get_is, keys_is, get_without, set_there, rows_inserted, rows_removed, rows_replaced, rows_same, get_there, get_elsewhere, no_clash, schema_after, table_at, valid, TableAt}
use Rattle.indexes.proofs.Tabling.{Finds}
use Rattle.indexes.proofs.Taken.{first_taken_at}
use Rattle.indexes.proofs.Walking.{rows_of_table-gathered}
use Rattle.indexes.proofs.Cells.{cells_are, cell_stays, has_room, room_has, room_after, room_fewer, room_elsewhere, room_of_table, room_of_new}

schema_length : (ts : List TableContent) → length (schema_of ts) ≡ length ts
schema_length [] = refl
schema_length (t ∷ ts) = ap suc (schema_length ts)

within_tables : (ts : List TableContent) (seen : Content) → gathered ts ≡ seen → (i : ℕ) → i < length seen.schema → i < length ts
within_tables ts seen v i l =
    let e : length seen.schema ≡ length ts = ap (λ (s : Content). length s.schema) (sym v) ∙ schema_length ts in
    omega arith

module _ (ts : List TableContent) (seen : Content) (v : gathered ts ≡ seen) (i : ℕ) (known : i < length seen.schema) (t : TableContent) (is : t ≡ slice_index_or ts i t) where
  pub at : slice_get ts i ≡ Some t
  at = slice_get-get_or ts i t (within_tables ts seen v i known) ∙ ap Some (sym is)

  pub seen_keys : keys_at seen.schema i ≡ t.keys
  seen_keys = ap (λ (s : Content). keys_at s.schema i) (sym v) ∙ keys_is ts i t at

  pub seen_get : (key : Key) → get seen.rows (i, key) ≡ get t.rows key
  seen_get key = ap (λ (s : Content). get s.rows (i, key)) (sym v) ∙ get_is ts i t at key

  pub seen_rows : rows_of_table seen.rows i ≡ values t.rows
  seen_rows = ap (λ (s : Content). rows_of_table s.rows i) (sym v) ∙ rows_of_table-gathered ts i t at

  pub seen_without : (old key : Key) → get (remove seen.rows (i, old)) (i, key) ≡ get (remove t.rows old) key
  seen_without old key = ap (λ (s : Content). get (remove s.rows (i, old)) (i, key)) (sym v) ∙ get_without ts i t at old key

  pub own_key : (row : Record) (key : Key) → key_of seen.schema i row ≡ Some key → values_in t.keys.primary row ≡ Some key
  own_key row key e = ap (λ (k : TableKeys). values_in k.primary row) (sym seen_keys) ∙ e

  pub free : (key : Key) → get seen.rows (i, key) ≡ None → get t.rows key ≡ None
  free key e = sym (seen_get key) ∙ e

  pub free_without : (old key : Key) → get (remove seen.rows (i, old)) (i, key) ≡ None → get (remove t.rows old) key ≡ None
  free_without old key e = sym (seen_without old key) ∙ e

  pub there : (key : Key) → IsSome (get seen.rows (i, key)) → IsSome (get t.rows key)
  there key e = ap is_some (sym (seen_get key)) ∙ e

  pub clash : (row : Record) → first_taken seen.rows i row 1 (keys_at seen.schema i).uniques ≡ None → NoClash t.keys t.rows row
  clash row e = no_clash t.keys seen.rows t.rows i row seen_get (ap (λ (k : TableKeys). first_taken seen.rows i row 1 k.uniques) (sym seen_keys) ∙ e)

  pub clash_without : (old : Key) (row : Record) → first_taken (remove seen.rows (i, old)) i row 1 (keys_at seen.schema i).uniques ≡ None → NoClash t.keys (remove t.rows old) row
  clash_without old row e =
      no_clash t.keys (remove seen.rows (i, old)) (remove t.rows old) i row (seen_without old) (ap (λ (k : TableKeys). first_taken (remove seen.rows (i, old)) i row 1 k.uniques) (sym seen_keys) ∙ e)

  pub own_room : (row : Record) → HasRoom seen.room seen.schema i row → KeepsSpots (spots_of t.keys row) t.room
  own_room row e = has_room ts i t row at (subst (λ (s : Content). HasRoom s.room s.schema i row) (sym v) e)

  -- what the table asks of a row that comes back, where it is asked of the row among all
  pub may_come : (row : Record) (key : Key) → key_of seen.schema i row ≡ Some key → get seen.rows (i, key) ≡ None
      → first_taken seen.rows i row 1 (keys_at seen.schema i).uniques ≡ None
      → record { own_key : values_in t.keys.primary row ≡ Some key; free : get t.rows key ≡ None; unique : NoClash t.keys t.rows row }
  may_come row key own absent none = record { own_key = own_key row key own; free = free key absent; unique = clash row none }

  -- the same of a row that takes the place of another
  pub may_replace : (old : Key) (row : Record) (key : Key) → IsSome (get seen.rows (i, old)) → key_of seen.schema i row ≡ Some key
      → get (remove seen.rows (i, old)) (i, key) ≡ None → first_taken (remove seen.rows (i, old)) i row 1 (keys_at seen.schema i).uniques ≡ None
      → record {
        there : IsSome (get t.rows old);
        own_key : values_in t.keys.primary row ≡ Some key;
        free : get (remove t.rows old) key ≡ None;
        unique : NoClash t.keys (remove t.rows old) row;
      }
  may_replace old row key stands own absent none = record {
    there = there old stands;
    own_key = own_key row key own;
    free = free_without old key absent;
    unique = clash_without old row none;
  }

  pub unique_is : (number : ℕ) → unique_at t.keys number ≡ unique_columns seen.schema i number
  unique_is number = ap (λ (k : TableKeys). unique_at k number) (sym seen_keys)

  taken_found : (number : ℕ) (values : Key) (r : Option (Bor Key)) → IfSome r (λ key. HasValues t.rows (unique_at t.keys number) key.now values)
      → IfNone r ((key : Key) → ¬ HasValues t.rows (unique_at t.keys number) key values) → is_some r ≡ are_taken seen.rows i (unique_columns seen.schema i number) values
  taken_found number values None found missed =
      elim (are_taken seen.rows i (unique_columns seen.schema i number) values) as (λ b. are_taken seen.rows i (unique_columns seen.schema i number) values ≡ b → false ≡ b) [
        | true ↦ λ e.
            let r = row_of_taken seen.rows i (unique_columns seen.schema i number) values e in
            absurd (missed r.key (r.row, sym (seen_get r.key) ∙ r.at, ap (λ cs. values_in cs r.row) (unique_is number) ∙ r.has))
        | false ↦ λ e. refl
      ] refl
  taken_found number values (Some key) found missed =
      sym (taken_by_row seen.rows i (unique_columns seen.schema i number) values key.now found.0 (seen_get key.now ∙ found.1) (ap (λ cs. values_in cs found.0) (sym (unique_is number)) ∙ found.2))

  key_found : (number : ℕ) (values : Key) (r : Option (Bor Key)) → IfSome r (λ key. HasValues t.rows (unique_at t.keys number) key.now values)
      → IfSome r (λ key. (row : Record) × (get seen.rows (i, key.now) ≡ Some row) × (values_in (unique_columns seen.schema i number) row ≡ Some values))
  key_found number values None found = tt
  key_found number values (Some key) found = (found.0, seen_get key.now ∙ found.1, ap (λ cs. values_in cs found.0) (sym (unique_is number)) ∙ found.2)

  -- a row's values, of a row that has them or not
  taken_duplicate : (number : ℕ) (row : Record) (r : Option (Bor Key)) → IfSome r (λ key. IsDuplicate t.rows (unique_at t.keys number) key.now row)
      → IfNone r ((key : Key) → ¬ IsDuplicate t.rows (unique_at t.keys number) key row)
      → is_some r ≡ are_taken_unless_null seen.rows i (unique_columns seen.schema i number) (values_in (unique_columns seen.schema i number) row)
  taken_duplicate number row None found missed =
      elim (values_in (unique_columns seen.schema i number) row) as (λ o. values_in (unique_columns seen.schema i number) row ≡ o → false ≡ are_taken_unless_null seen.rows i (unique_columns seen.schema i number) o) [
        | None ↦ λ e. refl
        | Some values ↦ λ e. taken_found number values None tt (λ key has. missed key (values, ap (λ cs. values_in cs row) (unique_is number) ∙ e, has))
      ] refl
  taken_duplicate number row (Some key) found missed =
      let has : values_in (unique_columns seen.schema i number) row ≡ Some found.0 = ap (λ cs. values_in cs row) (sym (unique_is number)) ∙ found.1 in
      taken_found number found.0 (Some key) found.2 tt ∙ ap (are_taken_unless_null seen.rows i (unique_columns seen.schema i number)) (sym has)

  duplicate_found : (number : ℕ) (row : Record) (r : Option (Bor Key)) → IfSome r (λ key. IsDuplicate t.rows (unique_at t.keys number) key.now row)
      → IfSome r (λ key. (values : Key) × (values_in (unique_columns seen.schema i number) row ≡ Some values)
      × (duplicate : Record) × (get seen.rows (i, key.now) ≡ Some duplicate) × (values_in (unique_columns seen.schema i number) duplicate ≡ Some values))
  duplicate_found number row None found = tt
  duplicate_found number row (Some key) found =
      let own = key_found number found.0 (Some key) found.2 in
      (found.0, ap (λ cs. values_in cs row) (sym (unique_is number)) ∙ found.1, own.0, own.1, own.2)

  -- what a search by values tells of all tables, and one by a row
  pub sought_values : (number : ℕ) (values : Key) (r : Option (Bor Key))
      → Finds (λ key. HasValues t.rows (unique_at t.keys number) key values) r
      → record {
        taken : is_some r ≡ are_taken seen.rows i (unique_columns seen.schema i number) values;
        key : IfSome r (λ key. (row : Record) × (get seen.rows (i, key.now) ≡ Some row) × (values_in (unique_columns seen.schema i number) row ≡ Some values));
      }
  sought_values number values r told = record { taken = taken_found number values r told.found told.missed; key = key_found number values r told.found }

  pub sought_duplicate : (number : ℕ) (row : Record) (r : Option (Bor Key))
      → Finds (λ key. IsDuplicate t.rows (unique_at t.keys number) key row) r
      → record {
        taken : is_some r ≡ are_taken_unless_null seen.rows i (unique_columns seen.schema i number) (values_in (unique_columns seen.schema i number) row);
        key : IfSome r (λ key. (values : Key) × (values_in (unique_columns seen.schema i number) row ≡ Some values)
            × (duplicate : Record) × (get seen.rows (i, key.now) ≡ Some duplicate) × (values_in (unique_columns seen.schema i number) duplicate ≡ Some values));
      }
  sought_duplicate number row r told = record { taken = taken_duplicate number row r told.found told.missed; key = duplicate_found number row r told.found }

  module _ (key : Key) (row : Record) where
    unique_at_seen : (j : ℕ) (columns : List ℕ) → slice_get (keys_at seen.schema i).uniques j ≡ Some columns → slice_get t.keys.uniques j ≡ Some columns
    unique_at_seen j columns at = ap (λ (k : TableKeys). slice_get k.uniques j) (sym seen_keys) ∙ at

    free_values : (columns : List ℕ) → ((other values : Key) → values_in columns row ≡ Some values → ¬ HasValues t.rows columns other values)
        → (found : Option Key) → values_in columns row ≡ found → are_taken_unless_null seen.rows i columns found ≡ false
    free_values columns none None is = refl
    free_values columns none (Some values) is = elim (cases_Bool (are_taken seen.rows i columns values)) [
      | inl taken ↦ let r = row_of_taken seen.rows i columns values taken in absurd (none r.key values is (r.row, sym (seen_get r.key) ∙ r.at, r.has))
      | inr free ↦ free
    ]

    is_free : (j : ℕ) (columns : List ℕ) → slice_get (keys_at seen.schema i).uniques j ≡ Some columns → ¬ IsTaken t.keys t.rows key row (suc j)
        → are_taken_unless_null seen.rows i columns (values_in columns row) ≡ false
    is_free j columns at not_taken =
        free_values columns (λ other values has there. not_taken (columns, unique_at_seen j columns at, other, (values, has, there))) (values_in columns row) refl

    abbrev uniques : List (List ℕ)
    uniques = (keys_at seen.schema i).uniques

    by_key : (stands : Bool) → is_some (get t.rows key) ≡ stands → least_taken seen.schema seen.rows i key row ≡ (if stands then Some 0 else first_taken seen.rows i row 1 uniques)
    by_key stands is = ap (λ b. if b then Some 0 else first_taken seen.rows i row 1 uniques) (ap is_some (seen_get key) ∙ is)

    not_some : ¬ IsTaken t.keys t.rows key row 0 → is_some (get t.rows key) ≡ false
    not_some none = elim (cases_Bool (is_some (get t.rows key))) [
      | inl stands ↦ absurd (none stands)
      | inr absent ↦ absent
    ]

    least_behind : (k : ℕ) → IsTaken t.keys t.rows key row (suc k) → ((less : ℕ) → less < suc k → ¬ IsTaken t.keys t.rows key row less)
        → least_taken seen.schema seen.rows i key row ≡ Some (suc k)
    least_behind k taken less =
        let duplicate = taken.3 in
        let at : slice_get uniques k ≡ Some taken.0 = ap (λ (keys : TableKeys). slice_get keys.uniques k) seen_keys ∙ taken.1 in
        let e : 1 + k ≡ suc k = omega arith in
        by_key false (not_some (less 0 (omega arith)))
        ∙ first_taken_at seen.rows i row 1 uniques k taken.0 at
        (ap (are_taken_unless_null seen.rows i taken.0) duplicate.1 ∙ taken_by_row seen.rows i taken.0 duplicate.0 taken.2 duplicate.2.0 (seen_get taken.2 ∙ duplicate.2.1) duplicate.2.2)
        (λ j before l there. is_free j before there (less (suc j) (omega arith))) ∙ ap Some e

    -- which key an answer names, among all tables
    pub told_taken : {T : Type 0} (r : Result T Refused) → TellsTaken t.keys t.rows key row r → Tells (least_taken seen.schema seen.rows i key row) r
    told_taken (Ok done) none = by_key false (not_some (none 0)) ∙ first_taken_free seen.rows i row 1 uniques (λ j columns at. is_free j columns at (none (suc j)))
    told_taken (Err (Taken zero)) told = by_key true told.0
    told_taken (Err (Taken (suc k))) told = least_behind k told.0 told.1
    told_taken (Err OutOfMemory) told = tt

  pub is_table : IsTable seen.rows i t.rows
  is_table key = seen_get key

  pub out_room : (c : Cell) → table_of c ≡ i → Contains seen.room c → Contains (cells_in i t) c
  out_room c e h = room_of_table ts i t at c e (subst (λ (s : Content). Contains s.room c) (sym v) h)

  module _ (new : TableContent) where
    pub sound_with : AllSound ts → IsSound new → AllSound (slice_set ts i new)
    sound_with all sound = sound_after ts i t new at all sound

    pub schema_stays : new.keys ≡ t.keys → schema_of (slice_set ts i new) ≡ seen.schema
    schema_stays e = schema_after ts i t new at e ∙ ap (λ (s : Content). s.schema) v

    pub inserted : (key : Key) (row : Record) → new.rows ≡ insert t.rows key row → rows_of (slice_set ts i new) ≡ insert seen.rows (i, key) row
    inserted key row e = rows_inserted ts i t at new key row e ∙ ap (λ (s : Content). insert s.rows (i, key) row) v

    pub removed : (key : Key) → new.rows ≡ remove t.rows key → rows_of (slice_set ts i new) ≡ remove seen.rows (i, key)
    removed key e = rows_removed ts i t at new key e ∙ ap (λ (s : Content). remove s.rows (i, key)) v

    pub replaced : (old key : Key) (row : Record) → new.rows ≡ insert (remove t.rows old) key row → rows_of (slice_set ts i new) ≡ insert (remove seen.rows (i, old)) (i, key) row
    replaced old key row e = rows_replaced ts i t at new old key row e ∙ ap (λ (s : Content). insert (remove s.rows (i, old)) (i, key) row) v

    pub unchanged : new.rows ≡ t.rows → rows_of (slice_set ts i new) ≡ seen.rows
    unchanged e = rows_same ts i t at new e ∙ ap (λ (s : Content). s.rows) v

    pub kept : KeepsSpots t.room new.room → KeepsCells seen.room (cells_from 0 (slice_set ts i new))
    kept e c h = room_after ts i t new at e c (subst (λ (s : Content). Contains s.room c) (sym v) h)

    pub fewer : KeepsSpots new.room t.room → KeepsCells (cells_from 0 (slice_set ts i new)) seen.room
    fewer e = subst (λ (s : Content). KeepsCells (cells_from 0 (slice_set ts i new)) s.room) v (room_fewer ts i t new at e)

    pub made : (row : Record) → KeepsSpots (spots_of new.keys row) new.room → HasRoom (cells_from 0 (slice_set ts i new)) (schema_of (slice_set ts i new)) i row
    made row e = room_has (slice_set ts i new) i new row (set_there ts i t new at) e

    abbrev after : Content
    after = gathered (slice_set ts i new)

    -- what a call leaves that takes no memory: these are the rows now, and no room goes
    abbrev Left : Rows → Type 0
    Left rows = record { schema : after.schema ≡ seen.schema; rows : after.rows ≡ rows; kept : KeepsCells seen.room after.room }

    pub left_same : new.keys ≡ t.keys → new.rows ≡ t.rows → KeepsSpots t.room new.room → Left seen.rows
    left_same keys rows room = record { schema = schema_stays keys; rows = unchanged rows; kept = kept room }

    pub left_put : (key : Key) (row : Record) → new.keys ≡ t.keys → new.rows ≡ insert t.rows key row → KeepsSpots t.room new.room → Left (insert seen.rows (i, key) row)
    left_put key row keys rows room = record { schema = schema_stays keys; rows = inserted key row rows; kept = kept room }

    pub left_replace : (old key : Key) (row : Record) → new.keys ≡ t.keys → new.rows ≡ insert (remove t.rows old) key row → KeepsSpots t.room new.room
        → Left (insert (remove seen.rows (i, old)) (i, key) row)
    left_replace old key row keys rows room = record { schema = schema_stays keys; rows = replaced old key row rows; kept = kept room }

    pub left_remove : (key : Key) → new.keys ≡ t.keys → new.rows ≡ remove t.rows key → KeepsSpots t.room new.room → Left (remove seen.rows (i, key))
    left_remove key keys rows room = record { schema = schema_stays keys; rows = removed key rows; kept = kept room }

    -- what a call leaves that may be refused memory: these are the rows now, with room for the row, or all are as before
    abbrev Tried : {A E : Type 0} → Result A E → Record → Rows → Type 0
    Tried r row rows = record {
      schema : after.schema ≡ seen.schema;
      ok : OnOk r (after.rows ≡ rows);
      err : OnErr r (after.rows ≡ seen.rows);
      kept : KeepsCells seen.room after.room;
      room : OnOk r (HasRoom after.room after.schema i row);
    }

    tried : {A E : Type 0} (r : Result A E) (row : Record) (mine : FinMap key_cmp Record) (rows : Rows) → (new.rows ≡ mine → after.rows ≡ rows)
        → new.keys ≡ t.keys → OnOk r (new.rows ≡ mine) → OnErr r (new.rows ≡ t.rows) → KeepsSpots t.room new.room
        → OnOk r (KeepsSpots (spots_of new.keys row) new.room) → Tried r row rows
    tried r row mine rows same keys ok err stays room = record {
      schema = schema_stays keys;
      ok = on_ok_weaker r same ok;
      err = on_err_weaker r unchanged err;
      kept = kept stays;
      room = on_ok_weaker r (made row) room;
    }

    pub tried_put : {A E : Type 0} (r : Result A E) (row : Record) (key : Key) → new.keys ≡ t.keys → OnOk r (new.rows ≡ insert t.rows key row)
        → OnErr r (new.rows ≡ t.rows) → KeepsSpots t.room new.room → OnOk r (KeepsSpots (spots_of new.keys row) new.room)
        → Tried r row (insert seen.rows (i, key) row)
    tried_put r row key = tried r row (insert t.rows key row) (insert seen.rows (i, key) row) (inserted key row)

    pub tried_replace : {A E : Type 0} (r : Result A E) (row : Record) (old key : Key) → new.keys ≡ t.keys
        → OnOk r (new.rows ≡ insert (remove t.rows old) key row) → OnErr r (new.rows ≡ t.rows) → KeepsSpots t.room new.room
        → OnOk r (KeepsSpots (spots_of new.keys row) new.room) → Tried r row (insert (remove seen.rows (i, old)) (i, key) row)
    tried_replace r row old key =
        tried r row (insert (remove t.rows old) key row) (insert (remove seen.rows (i, old)) (i, key) row) (replaced old key row)

    pub new_get : (key : Key) → get (rows_of (slice_set ts i new)) (i, key) ≡ get new.rows key
    new_get key = get_there ts i t at new key

    pub elsewhere : SameElsewhere seen.rows (rows_of (slice_set ts i new)) i
    elsewhere other key differs = get_elsewhere ts i t at new other key differs ∙ ap (λ (s : Content). get s.rows (other, key)) v

    pub same_room_elsewhere : SameRoomElsewhere seen.room (cells_from 0 (slice_set ts i new)) i
    same_room_elsewhere c differs h = room_elsewhere ts i new c differs (subst (λ (s : Content). Contains s.room c) (sym v) h)

    pub new_room : KeepsCells (cells_in i new) (cells_from 0 (slice_set ts i new))
    new_room = room_of_new ts i t new at

    pub settled : (row : Record) (key : Key) → ((s : Spot) → ¬ Contains (spots_of t.keys row) s → s ≢ (0, key) → Contains t.room s → Contains new.room s)
        → (c : Cell) → ¬ Contains (cells_of seen.schema i row) c → c ≢ Row i key → Contains seen.room c → Contains (cells_from 0 (slice_set ts i new)) c
    settled row key stays c not_row not_key h =
        cell_stays ts i t new at c
        (λ s is. stays s
        (λ there. not_row (subst (λ (cs : List Cell). Contains cs c) (sym (cells_are seen.schema i row))
        (subst (λ (k : TableKeys). Contains (map (cell_at i) (spots_of k row)) c) (sym seen_keys)
        (subst (Contains (map (cell_at i) (spots_of t.keys row))) is (contains_elem _ _ (elem_map (cell_at i) (spots_of t.keys row) s (elem_contains _ _ there)))))))
        (λ e. not_key (sym is ∙ ap (cell_at i) e)))
        (subst (λ (s : Content). Contains s.room c) (sym v) h)

-- ---- all tables

module _ (ts : List TableContent) (seen : Content) (v : gathered ts ≡ seen) (all : AllSound ts) where
  pub seen_valid : IsValid seen.schema seen.rows
  seen_valid = subst (λ (s : Content). IsValid s.schema s.rows) v (valid ts all)

  seen_at : (i : ℕ) (key : Key) (row : Record) → get seen.rows (i, key) ≡ Some row → TableAt ts i key row
  seen_at i key row e = table_at ts i key row (ap (λ (s : Content). get s.rows (i, key)) v ∙ e)

  within : (us : List TableContent) (i : ℕ) (t : TableContent) → slice_get us i ≡ Some t → i < length (schema_of us)
  within [] i t e = absurd cc
  within (u ∷ us) zero t e = omega arith
  within (u ∷ us) (suc i) t e = let l = within us i t e in omega arith

  pub seen_known : (i : ℕ) (key : Key) (row : Record) → get seen.rows (i, key) ≡ Some row → i < length seen.schema
  seen_known i key row e =
      let a = seen_at i key row e in
      let l = within ts i a.0 a.1 in
      let same : length (schema_of ts) ≡ length seen.schema = ap (λ (s : Content). length s.schema) v in
      omega arith

  pub seen_room : (i : ℕ) (key : Key) (row : Record) → get seen.rows (i, key) ≡ Some row → HasRoom seen.room seen.schema i row
  seen_room i key row e =
      let a = seen_at i key row e in
      subst (λ (s : Content). HasRoom s.room s.schema i row) v (room_has ts i a.0 row a.1 ((all i a.0 a.1).room key row a.2))

-- ---- new tables

pub new_sound : (ts : List TableContent) → AllByRecursion IsNew ts → AllSound ts
new_sound [] all i t at = absurd cc
new_sound (u ∷ ts) all zero t at = let same : u ≡ t = cc in subst IsSound same all.0.sound
new_sound (u ∷ ts) all (suc i) t at = new_sound ts all.1 i t at

no_length : {X : Type 0} (xs : List X) → length xs ≡ 0 → xs ≡ []
no_length [] e = refl
no_length (x ∷ xs) e = absurd (omega arith)

no_entries : entries (empty {X = Record} {R = key_cmp}) ≡ []
no_entries = no_length _ (sym (len-entries empty) ∙ len-empty key_cmp Record)

placed_none : (n : ℕ) (ts : List TableContent) → AllByRecursion IsNew ts → placed n ts ≡ []
placed_none n [] all = refl
placed_none n (t ∷ ts) all =
    ap (λ (m : FinMap key_cmp Record). map (λ e. ((n, e.0), e.1)) (entries m) ++ placed (suc n) ts) all.0.no_rows
    ∙ ap (λ es. map (λ e. ((n, e.0), e.1)) es ++ placed (suc n) ts) no_entries ∙ placed_none (suc n) ts all.1

pub new_rows : (ts : List TableContent) → AllByRecursion IsNew ts → rows_of ts ≡ empty
new_rows ts all = ap (from_entries {R = place_cmp}) (placed_none 0 ts all)
