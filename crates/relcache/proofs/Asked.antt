-- What a row message asks for, or the first fault that applies to it.
use Rattle.std.proofs.Common.{◌≡◌, ℕ, ◌<◌, ⊎_elim, inl, inr, Bool, true, false, eqb, List, length, Option, Some, None, option_map, Result, Ok, Err, refl, sym, ap, ◌∙◌, subst, arith}
use Rattle.std.specs.List.{slice_get}
use Rattle.std.specs.Option.{option_and_then, ok_or}
use Rattle.std.proofs.lemmas.Bool.{eqb-true, eqb-false}
use Rattle.std.proofs.lemmas.Option.{same_Some, slice_get_within, slice_get_cases}
use Rattle.messages.specs.declared.tuple.Column.{Column as SentColumn}
use Rattle.messages.specs.declared.tuple.Column.TheVariants.{Null, Unchanged, Text as SentText}
use Rattle.messages.specs.declared.tuple.OldTuple.{OldTuple}
use Rattle.messages.specs.declared.tuple.OldTuple.TheVariants.{Key as OldKey, Full as OldRow}
use Rattle.messages.specs.declared.row.RowMessage.{RowMessage}
use Rattle.messages.specs.declared.row.RowMessage.TheVariants.{Insert, Update, Delete}
use Rattle.model.specs.declared.value.Value.{Value}
use Rattle.model.specs.declared.change.Change.{Change}
use Rattle.model.specs.declared.change.Change.TheVariants.{Put, Set, Remove}
use Rattle.model.specs.declared.patch.ColumnPatch.{ColumnPatch}
use Rattle.model.specs.declared.patch.ColumnPatch.TheVariants.{Keep, Null as BecomesNull, Value as Becomes}
use Rattle.model.specs.MappedLemmas.{mapped}
use Rattle.model.specs.Types.{value_of, value_spelled}
use Rattle.catalog.specs.First.{IsFirst, IsRefusedFirst}
use Rattle.catalog.proofs.Firsts.{first_at, refused_first}
use Rattle.relcache.specs.declared.fault.RelFault.{RelFault}
use Rattle.relcache.specs.declared.fault.RelFault.TheVariants.{KeyNotSent, ColumnCount, BadValue, NullKey}
use Rattle.relcache.specs.declared.mapping.Field.{Field}
use Rattle.relcache.specs.declared.mapping.ColumnSource.{ColumnSource}
use Rattle.relcache.specs.declared.mapping.ColumnSource.TheVariants.{Sent, Default}
use Rattle.relcache.specs.Steps.{◌>>=◌, require, each}
use Rattle.relcache.specs.Mapping.{Mapped}
use Rattle.relcache.specs.Planning.{sent_value, sent_patch, field_value, field_patch, column_value, column_patch, row_of, patch_of, lookup_key, old_columns, lookup_tuple, planned}
use Rattle.relcache.specs.Statements.{order, Tells, Patches, IsRowOf, IsPatchOf, IsKeyOf, LooksUp, IsBadRow, AtKey, IsRowFault, Asks}
use Rattle.relcache.proofs.Each.{length-each, each_gives, each_fails}

-- ---- what a column of a tuple tells

module _ (tuple : List SentColumn) (field : Field) where
  tells_at : (o : Option SentColumn) → slice_get tuple field.place ≡ o → (value : Option Value) → option_and_then (sent_value field.kind) o ≡ Some value → Tells tuple field value
  tells_at None is value e = cc
  tells_at (Some Null) is None e = is
  tells_at (Some Null) is (Some v) e = cc
  tells_at (Some Unchanged) is value e = cc
  tells_at (Some (SentText text)) is None e =
      let read = mapped {B = Option Value} (λ v. Some v) (value_of field.kind text) None e in
      cc
  tells_at (Some (SentText text)) is (Some v) e =
      let read = mapped {B = Option Value} (λ w. Some w) (value_of field.kind text) (Some v) e in
      (text, is, (value_spelled field.kind text v).0 (read.1 ∙ read.2))

  tells : (value : Option Value) → field_value tuple field ≡ Some value → Tells tuple field value
  tells value e = tells_at (slice_get tuple field.place) refl value e

  told : (value : Option Value) → Tells tuple field value → field_value tuple field ≡ Some value
  told None is = ap (option_and_then (sent_value field.kind)) is
  told (Some v) (text, is, spelled) =
      ap (option_and_then (sent_value field.kind)) is ∙ ap (option_map {U = Option Value} (λ w. Some w)) ((value_spelled field.kind text v).1 spelled)

  patches_at : (o : Option SentColumn) → slice_get tuple field.place ≡ o → (column : ColumnPatch) → option_and_then (sent_patch field.kind) o ≡ Some column → Patches tuple field column
  patches_at None is column e = cc
  patches_at (Some Null) is Keep e = cc
  patches_at (Some Null) is BecomesNull e = is
  patches_at (Some Null) is (Becomes v) e = cc
  patches_at (Some Unchanged) is Keep e = is
  patches_at (Some Unchanged) is BecomesNull e = cc
  patches_at (Some Unchanged) is (Becomes v) e = cc
  patches_at (Some (SentText text)) is Keep e =
      let read = mapped Becomes (value_of field.kind text) Keep e in
      cc
  patches_at (Some (SentText text)) is BecomesNull e =
      let read = mapped Becomes (value_of field.kind text) BecomesNull e in
      cc
  patches_at (Some (SentText text)) is (Becomes v) e =
      let read = mapped Becomes (value_of field.kind text) (Becomes v) e in
      let same : read.0 ≡ v = cc in
      (text, is, (value_spelled field.kind text v).0 (read.1 ∙ ap Some same))

  patches : (column : ColumnPatch) → field_patch tuple field ≡ Some column → Patches tuple field column
  patches column e = patches_at (slice_get tuple field.place) refl column e

  patched : (column : ColumnPatch) → Patches tuple field column → field_patch tuple field ≡ Some column
  patched Keep is = ap (option_and_then (sent_patch field.kind)) is
  patched BecomesNull is = ap (option_and_then (sent_patch field.kind)) is
  patched (Becomes v) (text, is, spelled) =
      ap (option_and_then (sent_patch field.kind)) is ∙ ap (option_map Becomes) ((value_spelled field.kind text v).1 spelled)

none_some : {A : Type 0} (o : Option A) (x : A) → o ≡ None → ¬ (o ≡ Some x)
none_some o x none some =
    let both : None ≡ Some x = sym none ∙ some in
    cc

-- ---- the columns of a table, each made of its source

module _ {B : Type 0} (m : Mapped) (make : ColumnSource → Option B) where
  -- what a published column tells, and what stands in the others
  module _ (Told : Field → B → Type 0) (sound : (field : Field) (x : B) → make (Sent field) ≡ Some x → Told field x) (made : List B) (e : each make m.columns ≡ Some made) where
    sent_column : (number : ℕ) (field : Field) → slice_get m.columns number ≡ Some (Sent field) → (x : B) × Told field x × (slice_get made number ≡ Some x)
    sent_column number field at =
        let gives = each_gives make m.columns made number (Sent field) e at in
        (gives.0, sound field gives.0 gives.1, gives.2)

    unsent_column : (number : ℕ) (default : Option Value) → slice_get m.columns number ≡ Some (Default default) → slice_get made number ≡ make (Default default)
    unsent_column number default at =
        let gives = each_gives make m.columns made number (Default default) e at in
        gives.2 ∙ sym gives.1

  -- a published column that tells nothing
  bad_column : (Bad : Field → Type 0) → ((source : ColumnSource) → make source ≡ None → (field : Field) × (source ≡ Sent field) × Bad field) → each make m.columns ≡ None
      → (number : ℕ) × (field : Field) × (slice_get m.columns number ≡ Some (Sent field)) × Bad field
  bad_column Bad unsent e =
      let fails = each_fails make m.columns e in
      let source = unsent fails.1 fails.3 in
      (fails.0, source.0, fails.2 ∙ ap Some source.1, source.2)

-- ---- the new row

module _ (m : Mapped) (new : List SentColumn) where
  source_told : (source : ColumnSource) → column_value new source ≡ None → (field : Field) × (source ≡ Sent field) × ((value : Option Value) → ¬ (Tells new field value))
  source_told (Sent field) e = (field, refl, λ value is. none_some (field_value new field) value e (told new field value is))
  source_told (Default value) e = cc

  source_patched : (source : ColumnSource) → column_patch new source ≡ None → (field : Field) × (source ≡ Sent field) × ((column : ColumnPatch) → ¬ (Patches new field column))
  source_patched (Sent field) e = (field, refl, λ column is. none_some (field_patch new field) column e (patched new field column is))
  source_patched (Default value) e = cc

  bad_row : row_of m new ≡ None → IsBadRow m (Insert new)
  bad_row e = bad_column m (column_value new) (λ field. (value : Option Value) → ¬ (Tells new field value)) source_told e

  row_is : (row : List (Option Value)) → row_of m new ≡ Some row → IsRowOf m new row
  row_is row e = record {
    width = length-each (column_value new) m.columns row e;
    sent = sent_column m (column_value new) (λ field value. Tells new field value) (tells new) row e;
    default = unsent_column m (column_value new) (λ field value. Tells new field value) (tells new) row e;
  }

  good_row : (row : List (Option Value)) → row_of m new ≡ Some row → ¬ (IsBadRow m (Insert new))
  good_row row e (number, field, at, bad) = let sent = (row_is row e).sent number field at in bad sent.0 sent.1

  bad_patch : (old : Option OldTuple) → patch_of m new ≡ None → IsBadRow m (Update old new)
  bad_patch old e = bad_column m (column_patch new) (λ field. (column : ColumnPatch) → ¬ (Patches new field column)) source_patched e

  patch_is : (patch : List ColumnPatch) → patch_of m new ≡ Some patch → IsPatchOf m new patch
  patch_is patch e = record {
    width = length-each (column_patch new) m.columns patch e;
    sent = sent_column m (column_patch new) (λ field column. Patches new field column) (patches new) patch e;
    kept = unsent_column m (column_patch new) (λ field column. Patches new field column) (patches new) patch e;
  }

  good_patch : (old : Option OldTuple) (patch : List ColumnPatch) → patch_of m new ≡ Some patch → ¬ (IsBadRow m (Update old new))
  good_patch old patch e (number, field, at, bad) = let sent = (patch_is patch e).sent number field at in bad sent.0 sent.1

-- ---- faults

module _ (m : Mapped) (row : RowMessage) where
  -- a mapping's change, or its fault, tells
  abbrev pub Comes : Result Change RelFault → Type 0
  Comes (Ok change) = Asks m row change × ((fault : RelFault) → ¬ (IsRowFault m row fault))
  Comes (Err fault) = IsFirst order (IsRowFault m row) fault

  first_key : IsRowFault m row KeyNotSent → Comes (Err KeyNotSent)
  first_key applies = first_at order (IsRowFault m row) 3 KeyNotSent refl applies (λ x. x, (λ x. x, (λ x. x, tt)))

  first_count : ¬ (IsRowFault m row KeyNotSent) → IsRowFault m row ColumnCount → Comes (Err ColumnCount)
  first_count key applies = first_at order (IsRowFault m row) 4 ColumnCount refl applies (λ x. x, (λ x. x, (λ x. x, (key, tt))))

  first_value : ¬ (IsRowFault m row KeyNotSent) → ¬ (IsRowFault m row ColumnCount) → IsRowFault m row BadValue → Comes (Err BadValue)
  first_value key count applies = first_at order (IsRowFault m row) 5 BadValue refl applies (λ x. x, (λ x. x, (λ x. x, (key, (count, tt)))))

  first_null : ¬ (IsRowFault m row KeyNotSent) → ¬ (IsRowFault m row ColumnCount) → ¬ (IsRowFault m row BadValue) → IsRowFault m row NullKey → Comes (Err NullKey)
  first_null key count value applies = first_at order (IsRowFault m row) 6 NullKey refl applies (λ x. x, (λ x. x, (λ x. x, (key, (count, (value, tt))))))

  none_applies : ¬ (IsRowFault m row KeyNotSent) → ¬ (IsRowFault m row ColumnCount) → ¬ (IsRowFault m row BadValue) → ¬ (IsRowFault m row NullKey) → (fault : RelFault) → ¬ (IsRowFault m row fault)
  none_applies key count value null KeyNotSent = key
  none_applies key count value null ColumnCount = count
  none_applies key count value null BadValue = value
  none_applies key count value null NullKey = null
  none_applies key count value null _ = λ x. x

-- ---- inserts

module _ (m : Mapped) (new : List SentColumn) where
  insert_key : ¬ (IsRowFault m (Insert new) KeyNotSent)
  insert_key (tuple, looked_up, none) = looked_up

  insert_counted : (length new ≡ m.published) → ¬ (IsRowFault m (Insert new) ColumnCount)
  insert_counted same (tuple, inl looked_up, other) = absurd looked_up
  insert_counted same (tuple, inr is, other) = other (ap (λ (t : List SentColumn). length t) is ∙ same)

  insert_good : (row : List (Option Value)) → row_of m new ≡ Some row → ¬ (IsRowFault m (Insert new) BadValue)
  insert_good row e (inl bad) = good_row m new row e bad
  insert_good row e (inr at) = absurd at.4

  insert_null : ¬ (IsRowFault m (Insert new) NullKey)
  insert_null at = absurd at.4

  insert_comes : (counted : Bool) → eqb (length new) m.published ≡ counted → (row : Option (List (Option Value))) → row_of m new ≡ row
      → Comes m (Insert new) (require counted ColumnCount >>= (λ _. ok_or row BadValue >>= (λ values. Ok (Put m.table values))))
  insert_comes false is row read = first_count m (Insert new) insert_key (new, inr refl, eqb-false (length new) m.published is)
  insert_comes true is None read = first_value m (Insert new) insert_key (insert_counted (eqb-true (length new) m.published is)) (inl (bad_row m new read))
  insert_comes true is (Some row) read = (
    (row, refl, row_is m new row read),
    none_applies m (Insert new) insert_key (insert_counted (eqb-true (length new) m.published is)) (insert_good row read) insert_null,
  )

-- ---- look-ups

module _ (m : Mapped) (row : RowMessage) (lookup : List SentColumn) (is : LooksUp row lookup) (only : (tuple : List SentColumn) → LooksUp row tuple → tuple ≡ lookup) where
  key_sent : (fields : List Field) → m.key ≡ Some fields → ¬ (IsRowFault m row KeyNotSent)
  key_sent fields sent (tuple, looked_up, none) = none_some m.key fields none sent

  module _ (fields : List Field) (sent : m.key ≡ Some fields) where
    bad_key : each (field_value lookup) fields ≡ None → AtKey m row (λ tuple field. (value : Option Value) → ¬ (Tells tuple field value))
    bad_key e =
        let fails = each_fails (field_value lookup) fields e in
        (lookup, fields, fails.0, fails.1, is, sent, fails.2, λ value told_so. none_some (field_value lookup fails.1) value fails.3 (told lookup fails.1 value told_so))

    -- what is said of a column of the key is said of one of these fields, in this tuple
    at_lookup : (P : List SentColumn → Field → Type 0) → AtKey m row P → (k : ℕ) × (field : Field) × (slice_get fields k ≡ Some field) × P lookup field
    at_lookup P (tuple, others, k, field, looked_up, known, at, holds) =
        let same : others ≡ fields = same_Some _ _ (sym known ∙ sent) in
        (k, field, ap (λ (l : List Field). slice_get l k) (sym same) ∙ at, subst (λ (t : List SentColumn). P t field) (only tuple looked_up) holds)

    module _ (values : List (Option Value)) (read : each (field_value lookup) fields ≡ Some values) where
      good_key : ¬ (AtKey m row (λ tuple field. (value : Option Value) → ¬ (Tells tuple field value)))
      good_key bad =
          let at = at_lookup (λ tuple field. (value : Option Value) → ¬ (Tells tuple field value)) bad in
          let gives = each_gives (field_value lookup) fields values at.0 at.1 read at.2 in
          at.3 gives.0 (tells lookup at.1 gives.0 gives.1)

      null_key : each {B = Value} (λ value. value) values ≡ None → AtKey m row (λ tuple field. Tells tuple field None)
      null_key e =
          let fails = each_fails {B = Value} (λ (value : Option Value). value) values e in
          let within : fails.0 < length fields = subst (λ (n : ℕ). fails.0 < n) (length-each (field_value lookup) fields values read) (slice_get_within values fails.0 fails.1 fails.2) in
          let field_at : (field : Field) × (slice_get fields fails.0 ≡ Some field) =
          ⊎_elim
          (λ (there : (x : Field) × (fails.0 < length fields) × (slice_get fields fails.0 ≡ Some x) × _). (there.0, there.2))
          (λ past. absurd (omega (arith, within, past.0)))
          (slice_get_cases fields fails.0).1
          in
          let gives = each_gives (field_value lookup) fields values fails.0 field_at.0 read field_at.1 in
          let null : gives.0 ≡ None = same_Some _ _ (sym gives.2 ∙ fails.2) ∙ fails.3 in
          (lookup, fields, fails.0, field_at.0, is, sent, field_at.1, tells lookup field_at.0 None (gives.1 ∙ ap Some null))

      module _ (key : List Value) (whole : each {B = Value} (λ value. value) values ≡ Some key) where
        no_null : ¬ (AtKey m row (λ tuple field. Tells tuple field None))
        no_null null =
            let at = at_lookup (λ tuple field. Tells tuple field None) null in
            let gives = each_gives (field_value lookup) fields values at.0 at.1 read at.2 in
            let none : gives.0 ≡ None = same_Some _ _ (sym gives.1 ∙ told lookup at.1 None at.3) in
            let value = each_gives {B = Value} (λ (value : Option Value). value) values key at.0 gives.0 whole gives.2 in
            none_some gives.0 value.0 none value.1

        key_is : IsKeyOf fields lookup key
        key_is = record {
          width = length-each {B = Value} (λ value. value) values key whole ∙ length-each (field_value lookup) fields values read;
          values = λ k field at.
              let gives = each_gives (field_value lookup) fields values k field read at in
              let value = each_gives {B = Value} (λ (value : Option Value). value) values key k gives.0 whole gives.2 in
              (value.0, tells lookup field (Some value.0) (gives.1 ∙ ap Some value.1), value.2);
        }

    -- the rest of a look-up: no other fault applies, and the change is made of the key
    looks_up : ¬ (IsRowFault m row ColumnCount) → ¬ (IsBadRow m row) → (make : List Value → Change) → ((key : List Value) → IsKeyOf fields lookup key → Asks m row (make key))
        → (values : Option (List (Option Value))) → each (field_value lookup) fields ≡ values
        → Comes m row (ok_or values BadValue >>= (λ vs. ok_or (each (λ value. value) vs) NullKey) >>= (λ key. Ok (make key)))
    looks_up count row_read make asks None read = first_value m row (key_sent fields sent) count (inr (bad_key read))
    looks_up count row_read make asks (Some values) read = with_values (each (λ value. value) values) refl
      where
        value_good : ¬ (IsRowFault m row BadValue)
        value_good (inl bad) = row_read bad
        value_good (inr bad) = good_key values read bad

        with_values : (key : Option (List Value)) → each (λ value. value) values ≡ key → Comes m row (ok_or key NullKey >>= (λ k. Ok (make k)))
        with_values None whole = first_null m row (key_sent fields sent) count value_good (null_key values read whole)
        with_values (Some key) whole =
            (asks key (key_is values read key whole), none_applies m row (key_sent fields sent) count value_good (no_null values read key whole))

-- ---- updates

module _ (m : Mapped) (old : Option OldTuple) (new : List SentColumn) where
  looked_up : (o : Option OldTuple) → LooksUp (Update o new) (lookup_tuple o new)
  looked_up None = refl
  looked_up (Some (OldKey tuple)) = refl
  looked_up (Some (OldRow tuple)) = refl

  one_lookup : (o : Option OldTuple) (tuple : List SentColumn) → LooksUp (Update o new) tuple → tuple ≡ lookup_tuple o new
  one_lookup None tuple is = is
  one_lookup (Some (OldKey own)) tuple is = is
  one_lookup (Some (OldRow own)) tuple is = is

  update_counted : length (lookup_tuple old new) ≡ m.published → length new ≡ m.published → ¬ (IsRowFault m (Update old new) ColumnCount)
  update_counted lookup_same same (tuple, inl is, other) = other (ap (λ (t : List SentColumn). length t) (one_lookup old tuple is) ∙ lookup_same)
  update_counted lookup_same same (tuple, inr is, other) = other (ap (λ (t : List SentColumn). length t) is ∙ same)

  update_comes : (key : Option (List Field)) → m.key ≡ key → (lookup_counted counted : Bool) → eqb (length (lookup_tuple old new)) m.published ≡ lookup_counted → eqb (length new) m.published ≡ counted
      → (patch : Option (List ColumnPatch)) → patch_of m new ≡ patch
      → Comes m (Update old new) (ok_or key KeyNotSent >>= (λ fields. require lookup_counted ColumnCount >>= (λ _. require counted ColumnCount >>= (λ _. ok_or patch BadValue >>= (λ columns. lookup_key fields (lookup_tuple old new) >>= (λ values. Ok (Set m.table values columns)))))))
  update_comes None sent lookup_counted counted lookup_is is patch read = first_key m (Update old new) (lookup_tuple old new, looked_up old, sent)
  update_comes (Some fields) sent false counted lookup_is is patch read =
      first_count m (Update old new) (key_sent m (Update old new) (lookup_tuple old new) (looked_up old) (one_lookup old) fields sent)
      (lookup_tuple old new, inl (looked_up old), eqb-false _ _ lookup_is)
  update_comes (Some fields) sent true false lookup_is is patch read =
      first_count m (Update old new) (key_sent m (Update old new) (lookup_tuple old new) (looked_up old) (one_lookup old) fields sent)
      (new, inr refl, eqb-false _ _ is)
  update_comes (Some fields) sent true true lookup_is is None read =
      first_value m (Update old new) (key_sent m (Update old new) (lookup_tuple old new) (looked_up old) (one_lookup old) fields sent)
      (update_counted (eqb-true _ _ lookup_is) (eqb-true _ _ is)) (inl (bad_patch m new old read))
  update_comes (Some fields) sent true true lookup_is is (Some patch) read =
      looks_up m (Update old new) (lookup_tuple old new) (looked_up old) (one_lookup old) fields sent
      (update_counted (eqb-true _ _ lookup_is) (eqb-true _ _ is)) (good_patch m new old patch read)
      (λ key. Set m.table key patch) (λ key is_key. (lookup_tuple old new, fields, key, patch, refl, looked_up old, sent, is_key, patch_is m new patch read))
      (each (field_value (lookup_tuple old new)) fields) refl

-- ---- deletes

module _ (m : Mapped) (old : OldTuple) where
  looked_up_old : (o : OldTuple) → LooksUp (Delete o) (old_columns o)
  looked_up_old (OldKey tuple) = refl
  looked_up_old (OldRow tuple) = refl

  one_lookup_old : (o : OldTuple) (tuple : List SentColumn) → LooksUp (Delete o) tuple → tuple ≡ old_columns o
  one_lookup_old (OldKey own) tuple is = is
  one_lookup_old (OldRow own) tuple is = is

  delete_counted : length (old_columns old) ≡ m.published → ¬ (IsRowFault m (Delete old) ColumnCount)
  delete_counted same (tuple, inl is, other) = other (ap (λ (t : List SentColumn). length t) (one_lookup_old old tuple is) ∙ same)
  delete_counted same (tuple, inr is, other) = absurd is

  delete_comes : (key : Option (List Field)) → m.key ≡ key → (counted : Bool) → eqb (length (old_columns old)) m.published ≡ counted
      → Comes m (Delete old) (ok_or key KeyNotSent >>= (λ fields. require counted ColumnCount >>= (λ _. lookup_key fields (old_columns old) >>= (λ values. Ok (Remove m.table values)))))
  delete_comes None sent counted is = first_key m (Delete old) (old_columns old, looked_up_old old, sent)
  delete_comes (Some fields) sent false is =
      first_count m (Delete old) (key_sent m (Delete old) (old_columns old) (looked_up_old old) (one_lookup_old old) fields sent)
      (old_columns old, inl (looked_up_old old), eqb-false _ _ is)
  delete_comes (Some fields) sent true is =
      looks_up m (Delete old) (old_columns old) (looked_up_old old) (one_lookup_old old) fields sent
      (delete_counted (eqb-true _ _ is)) (λ bad. bad)
      (λ key. Remove m.table key) (λ key is_key. (old_columns old, fields, key, refl, looked_up_old old, sent, is_key))
      (each (field_value (old_columns old)) fields) refl

-- ---- row messages

comes : (m : Mapped) (row : RowMessage) → Comes m row (planned m row)
comes m (Insert new) = insert_comes m new _ refl _ refl
comes m (Update old new) = update_comes m old new m.key refl _ _ refl refl _ refl
comes m (Delete old) = delete_comes m old m.key refl _ refl

pub planned_first : (m : Mapped) (row : RowMessage) → IsRefusedFirst order (planned m row) (IsRowFault m row)
planned_first m row =
    refused_first order (planned m row) (IsRowFault m row)
    (λ fault e. let come : Comes m row (Err fault) = subst (Comes m row) e (comes m row) in come)
    (λ change e. let come : Comes m row (Ok change) = subst (Comes m row) e (comes m row) in come.1)

pub planned_asks : (m : Mapped) (row : RowMessage) (change : Change) → planned m row ≡ Ok change → Asks m row change
planned_asks m row change e =
    let come : Comes m row (Ok change) = subst (Comes m row) e (comes m row) in
    come.0
