-- What comes of a change, by cases, each with what it says of the rows.
--     Shape, shape      the cases, and that they are all
--     after_put, after_set, after_remove      the rows after each
use Rattle.std.specs.Prelude.{◌≡◌, ℕ, Bool, true, false, List, Option, Some, None, is_some, if◌then◌else◌, refl}
use Rattle.std.specs.FinMap as map_of
use Rattle.std.specs.FinMap.{get, insert, remove, contains_key}
use Rattle.model.specs.declared.row.Row.{Row}
use Rattle.model.specs.declared.key.Key.{Key}
use Rattle.model.specs.declared.change.Change.{Change}
use Rattle.model.specs.declared.change.Change.TheVariants.{Put, Set, Remove, Wipe}
use Rattle.model.specs.declared.patch.ColumnPatch.{ColumnPatch}
use Rattle.model.specs.Rows.{Rows, Schema, keys_at, key_of}
use Rattle.model.specs.Effect.{Edits, overlay, one_edit, Outcome, Done, Skip, Clashes, ClashCause, Unique, first_taken, unless_taken, row_outcome_at, row_outcome, patch_row, set_outcome, remove_outcome, wipe_edits, outcome}
use Rattle.model.specs.EditLemmas.{overlay_one, overlay_two}

-- Which edits a change makes, by its kind and by the rows that it meets.
pub data Shape (schema : Schema) (rows : Rows) : Change → Outcome → Type 0 where
  clashes : (c : Change) (cause : ClashCause) → Shape schema rows c (Clashes cause)
  skips : (c : Change) → Shape schema rows c Skip
  puts : (table : ℕ) (row : Row) (key : Key) → key_of schema table row ≡ Some key → get rows (table, key) ≡ None
      → first_taken rows table row 1 (keys_at schema table).uniques ≡ None
      → Shape schema rows (Put table row) (Done (insert map_of.empty (table, key) (Some row)))
  sets : (table : ℕ) (key : Key) (patch : List ColumnPatch) (old : Row) (new : Key) → get rows (table, key) ≡ Some old
      → key_of schema table (patch_row patch old) ≡ Some new → get (remove rows (table, key)) (table, new) ≡ None
      → first_taken (remove rows (table, key)) table (patch_row patch old) 1 (keys_at schema table).uniques ≡ None
      → Shape schema rows (Set table key patch)
      (Done (insert (one_edit (table, key) None) (table, new) (Some (patch_row patch old))))
  removes : (table : ℕ) (key : Key) (old : Row) → get rows (table, key) ≡ Some old
      → Shape schema rows (Remove table key) (Done (one_edit (table, key) None))
  wipes : (tables : List ℕ) → Shape schema rows (Wipe tables) (Done (wipe_edits rows tables))

-- what comes of a row that is placed
pub data IsPlacing (schema : Schema) (rows : Rows) (edits : Edits) (table : ℕ) (row : Row) : Outcome → Type 0 where
  refused : (cause : ClashCause) → IsPlacing schema rows edits table row (Clashes cause)
  placing : (key : Key) → key_of schema table row ≡ Some key → get rows (table, key) ≡ None
      → first_taken rows table row 1 (keys_at schema table).uniques ≡ None
      → IsPlacing schema rows edits table row (Done (insert edits (table, key) (Some row)))

none_there : {X : Type 0} (o : Option X) → is_some o ≡ false → o ≡ None
none_there None e = refl
none_there (Some x) e = cc

module _ (schema : Schema) (rows : Rows) (edits : Edits) (table : ℕ) (row : Row) where
  by_taken : (key : Key) (least : Option ℕ) → key_of schema table row ≡ Some key → get rows (table, key) ≡ None
      → first_taken rows table row 1 (keys_at schema table).uniques ≡ least
      → IsPlacing schema rows edits table row (unless_taken table least (insert edits (table, key) (Some row)))
  by_taken key (Some number) own free is = refused (Unique table number)
  by_taken key None own free is = placing key own free is

  by_place : (key : Key) (there : Bool) → key_of schema table row ≡ Some key → contains_key rows (table, key) ≡ there
      → IsPlacing schema rows edits table row (if there then Clashes (Unique table 0)
      else unless_taken table (first_taken rows table row 1 (keys_at schema table).uniques)
      (insert edits (table, key) (Some row)))
  by_place key true own is = refused (Unique table 0)
  by_place key false own is = by_taken key _ own (none_there (get rows (table, key)) is) refl

  by_key : (key : Option Key) → key_of schema table row ≡ key
      → IsPlacing schema rows edits table row (row_outcome_at schema rows edits table row key)
  by_key None own = refused _
  by_key (Some key) own = by_place key _ own refl

  pub placing_of : IsPlacing schema rows edits table row (row_outcome schema rows edits table row)
  placing_of = by_key _ refl

put_shape : (schema : Schema) (rows : Rows) (table : ℕ) (row : Row) (o : Outcome)
    → IsPlacing schema rows map_of.empty table row o
    → Shape schema rows (Put table row) o
put_shape schema rows table row _ (refused cause) = clashes _ cause
put_shape schema rows table row _ (placing key own free untaken) = puts table row key own free untaken

set_shape : (schema : Schema) (rows : Rows) (table : ℕ) (key : Key) (patch : List ColumnPatch) (old : Row) (o : Outcome) → get rows (table, key) ≡ Some old
    → IsPlacing schema (remove rows (table, key)) (one_edit (table, key) None) table (patch_row patch old) o
    → Shape schema rows (Set table key patch) o
set_shape schema rows table key patch old _ stands (refused cause) = clashes _ cause
set_shape schema rows table key patch old _ stands (placing new own free untaken) =
    sets table key patch old new stands own free untaken

replaced_shape : (schema : Schema) (rows : Rows) (table : ℕ) (key : Key) (patch : List ColumnPatch) (old : Option Row) → get rows (table, key) ≡ old
    → Shape schema rows (Set table key patch) (set_outcome schema rows (table, key) patch old)
replaced_shape schema rows table key patch None stands = skips _
replaced_shape schema rows table key patch (Some old) stands =
    set_shape schema rows table key patch old _ stands
    (placing_of schema (remove rows (table, key)) (one_edit (table, key) None) table (patch_row patch old))

removed_shape : (schema : Schema) (rows : Rows) (table : ℕ) (key : Key) (old : Option Row) → get rows (table, key) ≡ old
    → Shape schema rows (Remove table key) (remove_outcome (table, key) old)
removed_shape schema rows table key None stands = skips _
removed_shape schema rows table key (Some old) stands = removes table key old stands

pub shape : (schema : Schema) (rows : Rows) (c : Change) → Shape schema rows c (outcome schema rows c)
shape schema rows (Put table row) = put_shape schema rows table row _ (placing_of schema rows map_of.empty table row)
shape schema rows (Set table key patch) = replaced_shape schema rows table key patch _ refl
shape schema rows (Remove table key) = removed_shape schema rows table key _ refl
shape schema rows (Wipe tables) = wipes tables

-- ---- the rows after

pub after_put : (rows : Rows) (table : ℕ) (key : Key) (row : Row)
    → overlay rows (insert map_of.empty (table, key) (Some row)) ≡ insert rows (table, key) row
after_put rows table key row = overlay_one rows (table, key) (Some row)

pub after_set : (rows : Rows) (table : ℕ) (key new : Key) (row : Row)
    → overlay rows (insert (one_edit (table, key) None) (table, new) (Some row)) ≡ insert (remove rows (table, key))
    (table, new) row
after_set rows table key new row = overlay_two rows (table, key) (table, new) None (Some row)

pub after_remove : (rows : Rows) (table : ℕ) (key : Key)
    → overlay rows (one_edit (table, key) None) ≡ remove rows (table, key)
after_remove rows table key = overlay_one rows (table, key) None
