-- What the restoring calls need, and what they leave, where an inverse can be put back.
use Rattle.std.specs.Prelude.{◌≡◌, ℕ, ◌==◌, not, Bool, true, false, cond, filter, List, [], ◌∷◌, ◌++◌, Option, Some, None, map, option_to_list}
use Rattle.std.proofs.Common.{Box, Global, sym, ◌∙◌, ap, subst, refl, inl, inr}
use Rattle.std.proofs.lemmas.List.Elements.{Contains-append_cases}
use Rattle.std.specs.FinMap.{insert, remove}
use Rattle.model.specs.declared.key.Key.{Key}
use Rattle.model.specs.declared.row.Row.{Row}
use Rattle.model.specs.declared.cell.Cell.{Cell}
use Rattle.model.specs.Rows.{Place, Rows, Schema, IsValid, keys_at, key_of, is_place}
use Rattle.model.specs.Effect.{first_taken, one_edit, back, all_back}
use Rattle.model.specs.EditLemmas.{same_edits, get_edit, get_one_edit, get_remove_same, overlay_one, overlay_two}
use Rattle.model.specs.ValidLemmas.{own_key_of_valid, free_of_valid}
use Rattle.model.specs.Cells.{table_of}
use Rattle.indexes.specs.Content.{Content, KeepsCells, IsTable, SameElsewhere, SameRoomElsewhere}
use Rattle.indexes.specs.Table.{cells_in}
use Rattle.change.specs.declared.inverse.MovedKeys.{MovedKeys}
use Rattle.change.specs.declared.inverse.Wiped.{Wiped}
use Rattle.change.specs.declared.inverse.Inverse.TheVariants.{Put, Replace, Move}
use Rattle.change.specs.Inverse.{rows_held, HasNoRows, is_elsewhere, room_with, room_unwiped, AreEmpty, AreKnown, CanUnwipe, CanPutBack}
use Rattle.change.specs.EditsLemmas.{back_rows_held, number_is_not}
use Rattle.change.specs.InverseLemmas.{filter_contains, unwiped_last, known_last, empty_last, room_unwiped_last, room_unwiped_keeps}

module _ (t : Content) (table : ℕ) (key : Key) (row : Row) (can : CanPutBack t (Put table key row)) where
  put_valid : IsValid t.schema (insert t.rows (table, key) row)
  put_valid = subst (IsValid t.schema) (overlay_one t.rows (table, key) (Some row)) can.valid

  pub put_own_key : key_of t.schema table row ≡ Some key
  put_own_key = own_key_of_valid t.schema t.rows table key row put_valid

  pub put_unique : first_taken t.rows table row 1 (keys_at t.schema table).uniques ≡ None
  put_unique = free_of_valid t.schema t.rows table key row put_valid can.as_left

first_again : {X : Type 0} (b : Bool) (x y z : X) → cond b x (cond b y z) ≡ cond b x z
first_again true x y z = refl
first_again false x y z = refl

-- a later edit at a place has the say
pub written_over : (p : Place) (edit other : Option Row) → insert (one_edit p edit) p other ≡ one_edit p other
written_over p edit other = same_edits _ _ (λ q.
    get_edit (one_edit p edit) p other q
    ∙ ap (cond (is_place q p) (Some other)) (get_one_edit p edit q)
    ∙ first_again (is_place q p) (Some other) (Some edit) None
    ∙ sym (get_one_edit p other q))

-- a row that goes, and another that comes to its key, are one edit
pub insert_over : (rows : Rows) (place : Place) (row : Row) → insert (remove rows place) place row ≡ back rows (one_edit place (Some row))
insert_over rows place row = sym (overlay_two rows place place None (Some row)) ∙ ap (back rows) (written_over place None (Some row))

module _ (t : Content) (table : ℕ) (key : Key) (row : Row) (can : CanPutBack t (Replace table key row)) where
  replace_valid : IsValid t.schema (insert (remove t.rows (table, key)) (table, key) row)
  replace_valid = subst (IsValid t.schema) (sym (insert_over t.rows (table, key) row)) can.valid

  pub replace_own_key : key_of t.schema table row ≡ Some key
  replace_own_key = own_key_of_valid t.schema (remove t.rows (table, key)) table key row replace_valid

  pub replace_unique : first_taken (remove t.rows (table, key)) table row 1 (keys_at t.schema table).uniques ≡ None
  replace_unique = free_of_valid t.schema (remove t.rows (table, key)) table key row replace_valid (get_remove_same t.rows (table, key))

module _ (t : Content) (table : ℕ) (keys : Box MovedKeys Global) (row : Row) (can : CanPutBack t (Move table keys row)) where
  move_valid : IsValid t.schema (insert (remove t.rows (table, keys.value.new_key)) (table, keys.value.key) row)
  move_valid = subst (IsValid t.schema) (overlay_two t.rows (table, keys.value.new_key) (table, keys.value.key) None (Some row)) can.valid

  pub move_own_key : key_of t.schema table row ≡ Some keys.value.key
  move_own_key = own_key_of_valid t.schema (remove t.rows (table, keys.value.new_key)) table keys.value.key row move_valid

  pub move_unique : first_taken (remove t.rows (table, keys.value.new_key)) table row 1 (keys_at t.schema table).uniques ≡ None
  move_unique = free_of_valid t.schema (remove t.rows (table, keys.value.new_key)) table keys.value.key row move_valid can.as_left.1

-- the list before its last element was taken
pub last_of : {X : Type 0} (all rest : List X) (last : X) (popped : Option X) → popped ≡ Some last → all ≡ rest ++ option_to_list popped → all ≡ rest ++ last ∷ []
last_of all rest last popped is split = split ∙ ap (λ o. rest ++ option_to_list o) is

-- ---- one emptied table gets back what it held

not_false : (b : Bool) → not b ≡ true → b ≡ false
not_false true e = cc
not_false false e = refl

module _ (t new : Content) (all ws : List Wiped) (w : Wiped) (split : all ≡ ws ++ w ∷ []) (can : CanUnwipe t all)
    (schema : new.schema ≡ t.schema) (held : IsTable new.rows w.table w.contents.rows) (elsewhere : SameElsewhere t.rows new.rows w.table)
    (room : KeepsCells (cells_in w.table w.contents) new.room) (room_elsewhere : SameRoomElsewhere t.room new.room w.table) where
  parted_empty : AreEmpty (back t.rows (rows_held w)) ws × HasNoRows t.rows w.table
  parted_empty = empty_last t.rows ws w (subst (AreEmpty t.rows) split can.empty)

  given_back : new.rows ≡ back t.rows (rows_held w)
  given_back = back_rows_held t.rows new.rows w parted_empty.1 held elsewhere

  -- the same tables come of what is left
  pub unwiped_rows : all_back new.rows (map rows_held ws) ≡ all_back t.rows (map rows_held all)
  unwiped_rows =
      ap (λ (r : Rows). all_back r (map rows_held ws)) given_back ∙ sym (unwiped_last t.rows ws w)
      ∙ ap (λ (l : List Wiped). all_back t.rows (map rows_held l)) (sym split)

  pub unwiped_can : CanUnwipe new ws
  unwiped_can = record {
    known = subst (λ (s : Schema). AreKnown s ws) (sym schema) (known_last t.schema ws w (subst (AreKnown t.schema) split can.known)).0;
    empty = subst (λ (r : Rows). AreEmpty r ws) (sym given_back) parted_empty.0;
  }

  room_given : KeepsCells (room_with t.room w) new.room
  room_given cell is =
      elim (Contains-append_cases (cells_in w.table w.contents) (filter (is_elsewhere w.table) t.room) cell is) [
        | inl of_table ↦ room cell of_table
        | inr of_other ↦
            let parts = filter_contains (is_elsewhere w.table) t.room cell of_other in
            room_elsewhere cell (number_is_not (table_of cell) w.table (not_false (table_of cell == w.table) parts.1)) parts.0
      ]

  pub unwiped_room : KeepsCells (room_unwiped t.room all) (room_unwiped new.room ws)
  unwiped_room =
      subst (λ (r : List Cell). KeepsCells r (room_unwiped new.room ws))
      (sym (ap (room_unwiped t.room) split ∙ room_unwiped_last t.room ws w))
      (room_unwiped_keeps (room_with t.room w) new.room ws room_given)
