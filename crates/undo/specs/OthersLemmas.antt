-- What can be undone can be so whatever others do at other cells.
--     same_undone      at a place with the same row, inverses leave the same row
--     room_back_of, room_undone_of      a cell that stays in the room is there once inverses are put back
--     CanUndo_past      what can be undone can be so past others
--     edits_elsewhere      an inverse edits no place but those that it alters
--     same_outside_back, same_outside_undone      so the rows are the same elsewhere
--     CanUndo_past_change, CanUndo_past_undo      past another's change; past changes of others that are undone
--     among      a cell is among a list, or not
--     CanUndo_past_gone      past cells that went from the room
--     CanUndo_past_settle      past the cells that another gave up
use Rattle.std.specs.Prelude.{◌≡◌, ℕ, zero, suc, ◌⊎◌, ◌==◌, ◌&&◌, true, false, cond, not, filter, List, [], ◌∷◌, ◌++◌, Option, Some, None, map, unwrap_or, is_some, refl}
use Rattle.std.proofs.Common.{sym, ◌∙◌, ap, subst, inl, inr, true≢false, arith}
use Rattle.std.specs.List.{Contains, list_any, AllByRecursion}
use Rattle.std.specs.Ordering.{eq_by_cmp}
use Rattle.std.specs.Cmp.{eq_by_cmp_equiv}
use Rattle.std.proofs.lemmas.Map.Views.{tells_apart, Contains-from_any, list_any-from_Contains}
use Rattle.std.specs.FinMap.{get, get-empty}
use Rattle.std.proofs.lemmas.List.Folds.{list_any-append}
use Rattle.std.proofs.lemmas.List.Elements.{Contains-append_left, Contains-append_right, Contains-append_cases}
use Rattle.model.specs.CellOrder.{cell_cmp, cell_cmp_total, cell_cmp_exact}
use Rattle.model.specs.declared.key.Key.{Key}
use Rattle.model.specs.declared.row.Row.{Row as Record}
use Rattle.model.specs.Key.{key_cmp_total}
use Rattle.model.specs.Cells.{table_of, overlaps, same_key, row_cell, unique_cell, unique_cells, cells_of}
use Rattle.model.specs.Footprint.{shares_cell}
use Rattle.model.specs.OverlapLemmas.{neither_first, neither_second, neither, shares_append}
use Rattle.model.specs.TakenLemmas.{both_true, same_number}
use Rattle.model.specs.declared.cell.Cell.{Cell}
use Rattle.model.specs.declared.cell.Cell.TheVariants.{Row, Uniq, Whole}
use Rattle.model.specs.Rows.{Place, place_cmp, Rows, Schema, keys_at, key_of, values_in, IsValid, is_place}
use Rattle.model.specs.Effect.{Edits, one_edit, back, all_back}
use Rattle.model.specs.EditLemmas.{place_cases, get_overlay, get_remove, get_edit, get_one_edit}
use Rattle.model.specs.CellContents.{SameAt, AreSame}
use Rattle.model.specs.FrameLemmas.{same_at_itself, each_of_first, each_of_second, each_of_both}
use Rattle.indexes.specs.Content.{Content, KeepsCells}
use Rattle.indexes.specs.Table.{Spot, cell_of_key, cell_at, cells_in}
use Rattle.change.specs.declared.inverse.Wiped.{Wiped}
use Rattle.change.specs.declared.inverse.Inverse.{Inverse}
use Rattle.change.specs.declared.inverse.Inverse.TheVariants.{Take, Put, Replace, Move, Unwipe}
use Rattle.change.specs.Altered.{cells_altered}
use Rattle.change.specs.Edits.{laid_together, or_else}
use Rattle.change.specs.EditsLemmas.{get_over, get_rows_held_other, number_is_not}
use Rattle.change.specs.Inverse.{rows_held, edits_of, is_elsewhere, room_with, room_unwiped, room_back, IsKnown, AreEmpty, AsLeft, HasItsRoom, CanPutBack}
use Rattle.change.specs.InverseLemmas.{contains_first, contains_one, contains_filter, filter_contains}
use Rattle.undo.specs.Undo.{content_undone, CanUndo, all_settled, cells_needed}
use Rattle.undo.specs.UndoLemmas.{rows_undone, schema_undone}
use Rattle.undo.specs.Others.{all_altered, all_needed, AreValidBack, StaysInRoom, IsFilled, HasRoomForAll}

-- ---- rows

module _ (rows others : Rows) (p : Place) where
  same_back : (edits : Edits) → get rows p ≡ get others p → get (back rows edits) p ≡ get (back others edits) p
  same_back edits same = get_overlay rows edits p ∙ ap (unwrap_or (get edits p)) same ∙ sym (get_overlay others edits p)

  same_all_back : (es : List Edits) → get rows p ≡ get others p → get (all_back rows es) p ≡ get (all_back others es) p
  same_all_back [] same = same
  same_all_back (edits ∷ es) same =
      get_overlay (all_back rows es) edits p ∙ ap (unwrap_or (get edits p)) (same_all_back es same) ∙ sym (get_overlay (all_back others es) edits p)

-- at a place with the same row, inverses leave the same row
pub same_undone : (old new : Content) (p : Place) (is : List Inverse) → get old.rows p ≡ get new.rows p
    → get (content_undone old is).rows p ≡ get (content_undone new is).rows p
same_undone old new p [] same = same
same_undone old new p (i ∷ is) same =
    same_back (content_undone old is).rows (content_undone new is).rows p (edits_of i) (same_undone old new p is same)

empty_alike : (schema : Schema) (rows others : Rows) (ws : List Wiped) → AreSame schema rows others (map (λ (w : Wiped). Whole w.table) ws)
    → AreEmpty rows ws → AreEmpty others ws
empty_alike schema rows others [] same empty = tt
empty_alike schema rows others (w ∷ ws) same empty = (
  empty_alike schema rows others ws same.1 empty.0,
  λ key. sym (same_all_back rows others (w.table, key) (map rows_held ws) (same.0 key)) ∙ empty.1 key,
)

-- where they are the same, they are as the change left them
left_alike : (schema : Schema) (rows others : Rows) (i : Inverse) → AreSame schema rows others (cells_altered i) → AsLeft rows i → AsLeft others i
left_alike schema rows others (Take table key) same left = ap is_some (sym same.0) ∙ left
left_alike schema rows others (Put table key row) same left = sym same.0 ∙ left
left_alike schema rows others (Replace table key row) same left = ap is_some (sym same.0) ∙ left
left_alike schema rows others (Move table keys row) same left = (
  ap is_some (sym same.1.0) ∙ left.0,
  get_remove others (table, keys.value.new_key) (table, keys.value.key)
      ∙ ap (cond (is_place (table, keys.value.key) (table, keys.value.new_key)) None) (sym same.0)
      ∙ sym (get_remove rows (table, keys.value.new_key) (table, keys.value.key)) ∙ left.1,
)
left_alike schema rows others (Unwipe wiped) same left = empty_alike schema rows others wiped.items same left

-- the same in the cells that an inverse alters, once others are put back
altered_undone : (schema : Schema) (old new : Content) (is : List Inverse) (i : Inverse) → AreSame schema old.rows new.rows (cells_altered i)
    → AreSame schema (content_undone old is).rows (content_undone new is).rows (cells_altered i)
altered_undone schema old new is (Take table key) same = (same_undone old new (table, key) is same.0, tt)
altered_undone schema old new is (Put table key row) same = (same_undone old new (table, key) is same.0, tt)
altered_undone schema old new is (Replace table key row) same = (same_undone old new (table, key) is same.0, tt)
altered_undone schema old new is (Move table keys row) same =
    (same_undone old new (table, keys.value.key) is same.0, (same_undone old new (table, keys.value.new_key) is same.1.0, tt))
altered_undone schema old new is (Unwipe wiped) same = each wiped.items same
  where
    each : (ws : List Wiped) → AreSame schema old.rows new.rows (map (λ (w : Wiped). Whole w.table) ws)
        → AreSame schema (content_undone old is).rows (content_undone new is).rows (map (λ (w : Wiped). Whole w.table) ws)
    each [] all = tt
    each (w ∷ ws) all = (λ key. same_undone old new (w.table, key) is (all.0 key), each ws all.1)

-- ---- room, cell by cell

room_with_of : (old new : List Cell) (w : Wiped) (cell : Cell) → (Contains old cell → Contains new cell)
    → Contains (room_with old w) cell → Contains (room_with new w) cell
room_with_of old new w cell stays is =
    elim (Contains-append_cases (cells_in w.table w.contents) (filter (is_elsewhere w.table) old) cell is) [
      | inl its ↦ Contains-append_left (cells_in w.table w.contents) (filter (is_elsewhere w.table) new) cell its
      | inr other ↦
          let parts = filter_contains (is_elsewhere w.table) old cell other in
          Contains-append_right (cells_in w.table w.contents) (filter (is_elsewhere w.table) new) cell
          (contains_filter (is_elsewhere w.table) new cell (stays parts.0) parts.1)
    ]

room_unwiped_of : (old new : List Cell) (ws : List Wiped) (cell : Cell) → (Contains old cell → Contains new cell)
    → Contains (room_unwiped old ws) cell → Contains (room_unwiped new ws) cell
room_unwiped_of old new [] cell stays = stays
room_unwiped_of old new (w ∷ ws) cell stays =
    room_with_of (room_unwiped old ws) (room_unwiped new ws) w cell (room_unwiped_of old new ws cell stays)

pub room_back_of : (old new : List Cell) (i : Inverse) (cell : Cell) → (Contains old cell → Contains new cell)
    → Contains (room_back old i) cell → Contains (room_back new i) cell
room_back_of old new (Take table key) cell stays = stays
room_back_of old new (Put table key row) cell stays = stays
room_back_of old new (Replace table key row) cell stays = stays
room_back_of old new (Move table keys row) cell stays = stays
room_back_of old new (Unwipe wiped) cell stays = room_unwiped_of old new wiped.items cell stays

-- a cell that stays in the room is there once inverses are put back
pub room_undone_of : (old new : Content) (is : List Inverse) (cell : Cell) → StaysInRoom old new cell
    → StaysInRoom (content_undone old is) (content_undone new is) cell
room_undone_of old new [] cell stays = stays
room_undone_of old new (i ∷ is) cell stays =
    room_back_of (content_undone old is).room (content_undone new is).room i cell (room_undone_of old new is cell stays)

has_room_of : (schema : Schema) (old new : List Cell) (i : Inverse)
    → ((cell : Cell) → Contains (cells_needed schema i) cell → Contains old cell → Contains new cell)
    → HasItsRoom schema old i → HasItsRoom schema new i
has_room_of schema old new (Take table key) stays has = has
has_room_of schema old new (Put table key row) stays has = λ cell is. stays cell is (has cell is)
has_room_of schema old new (Replace table key row) stays has = λ cell is. stays cell is (has cell is)
has_room_of schema old new (Move table keys row) stays has = λ cell is. stays cell is (has cell is)
has_room_of schema old new (Unwipe wiped) stays has = has

-- ---- past others

module _ (old new : Content) (schema : new.schema ≡ old.schema) where
  can_put_back : (is : List Inverse) (i : Inverse) → AreSame old.schema old.rows new.rows (cells_altered i)
      → IsValid new.schema (content_undone new (i ∷ is)).rows
      → ((cell : Cell) → Contains (cells_needed old.schema i) cell → StaysInRoom old new cell)
      → CanPutBack (content_undone old is) i → CanPutBack (content_undone new is) i
  can_put_back is i same valid stays can =
      let schemas : (content_undone old is).schema ≡ (content_undone new is).schema = schema_undone old is ∙ sym schema ∙ sym (schema_undone new is) in
      record {
        known = subst (λ (s : Schema). IsKnown s i) schemas can.known;
        as_left = left_alike old.schema (content_undone old is).rows (content_undone new is).rows i (altered_undone old.schema old new is i same) can.as_left;
        valid = subst (λ (s : Schema). IsValid s (content_undone new (i ∷ is)).rows) (sym (schema_undone new is)) valid;
        room = subst (λ (s : Schema). HasItsRoom s (content_undone new is).room i) schemas
            (has_room_of (content_undone old is).schema (content_undone old is).room (content_undone new is).room i
            (λ cell needs. room_undone_of old new is cell
            (stays cell (subst (λ (s : Schema). Contains (cells_needed s i) cell) (schema_undone old is) needs)))
            can.room);
      }

  pub CanUndo_past : (is : List Inverse) → AreSame old.schema old.rows new.rows (all_altered is) → AreValidBack new is
      → ((cell : Cell) → Contains (all_needed old.schema is) cell → StaysInRoom old new cell)
      → CanUndo old is → CanUndo new is
  CanUndo_past [] same valid stays can = tt
  CanUndo_past (i ∷ is) same valid stays can = (
    CanUndo_past is (each_of_second (SameAt old.schema old.rows new.rows) (cells_altered i) (all_altered is) same) valid.0
        (λ cell needs. stays cell (Contains-append_right (cells_needed old.schema i) (all_needed old.schema is) cell needs)) can.0,
    can_put_back is i (each_of_first (SameAt old.schema old.rows new.rows) (cells_altered i) (all_altered is) same) valid.1
        (λ cell needs. stays cell (Contains-append_left (cells_needed old.schema i) (all_needed old.schema is) cell needs)) can.1,
  )

-- ---- where an inverse edits

-- a place overlaps itself
row_itself : (p : Place) → overlaps (Row p.0 p.1) (Row p.0 p.1) ≡ true
row_itself p = both_true (p.0 == p.0) (same_key p.1 p.1) (same_number p.0) ((eq_by_cmp_equiv key_cmp_total).refl p.1)

places_differ : (p q : Place) → overlaps (Row p.0 p.1) (Row q.0 q.1) ≡ false → is_place p q ≡ false
places_differ p q apart =
    elim (place_cases p q) [
      | inl same ↦ absurd (true≢false (sym (row_itself q) ∙ ap (λ (r : Place). overlaps (Row r.0 r.1) (Row q.0 q.1)) (sym same) ∙ apart))
      | inr differs ↦ differs
    ]

-- the place is free of these cells
abbrev pub IsFreePlace : Place → List Cell → Type 0
IsFreePlace p cells = list_any (overlaps (Row p.0 p.1)) cells ≡ false

unwiped_elsewhere : (ws : List Wiped) (p : Place) → IsFreePlace p (map (λ (w : Wiped). Whole w.table) ws)
    → get (laid_together (map rows_held ws)) p ≡ None
unwiped_elsewhere [] p free = get-empty place_cmp p
unwiped_elsewhere (w ∷ ws) p free =
    get_over (rows_held w) (laid_together (map rows_held ws)) p
    ∙ ap (λ e. or_else e (get (laid_together (map rows_held ws)) p)) (get_rows_held_other w p (neither_first _ _ free))
    ∙ unwiped_elsewhere ws p (neither_second _ _ free)

-- an inverse edits no place but those that it alters
pub edits_elsewhere : (i : Inverse) (p : Place) → IsFreePlace p (cells_altered i) → get (edits_of i) p ≡ None
edits_elsewhere (Take table key) p free =
    get_one_edit (table, key) None p
    ∙ ap (λ b. cond b (Some None) None) (places_differ p (table, key) (neither_first _ _ free))
edits_elsewhere (Put table key row) p free =
    get_one_edit (table, key) (Some row) p
    ∙ ap (λ b. cond b (Some (Some row)) None) (places_differ p (table, key) (neither_first _ _ free))
edits_elsewhere (Replace table key row) p free =
    get_one_edit (table, key) (Some row) p
    ∙ ap (λ b. cond b (Some (Some row)) None) (places_differ p (table, key) (neither_first _ _ free))
edits_elsewhere (Move table keys row) p free =
    get_edit (one_edit (table, keys.value.new_key) None) (table, keys.value.key) (Some row) p
    ∙ ap (λ b. cond b (Some (Some row)) (get (one_edit (table, keys.value.new_key) None) p)) (places_differ p (table, keys.value.key) (neither_first _ _ free))
    ∙ get_one_edit (table, keys.value.new_key) None p
    ∙ ap (λ b. cond b (Some None) None) (places_differ p (table, keys.value.new_key) (neither_first _ _ (neither_second _ _ free)))
edits_elsewhere (Unwipe wiped) p free = unwiped_elsewhere wiped.items p free

-- the rows are the same but in these cells
abbrev pub IsSameOutside : Rows → Rows → List Cell → Type 0
IsSameOutside rows others cells = (p : Place) → IsFreePlace p cells → get rows p ≡ get others p

pub same_outside_back : (rows : Rows) (i : Inverse) → IsSameOutside (back rows (edits_of i)) rows (cells_altered i)
same_outside_back rows i p free =
    get_overlay rows (edits_of i) p ∙ ap (λ e. unwrap_or e (get rows p)) (edits_elsewhere i p free)

free_first : (p : Place) (cells more : List Cell) → IsFreePlace p (cells ++ more) → IsFreePlace p cells
free_first p cells more free = neither_first _ _ (sym (list_any-append (overlaps (Row p.0 p.1)) cells more) ∙ free)

free_rest : (p : Place) (cells more : List Cell) → IsFreePlace p (cells ++ more) → IsFreePlace p more
free_rest p cells more free = neither_second _ _ (sym (list_any-append (overlaps (Row p.0 p.1)) cells more) ∙ free)

pub same_outside_undone : (t : Content) (is : List Inverse) → IsSameOutside (content_undone t is).rows t.rows (all_altered is)
same_outside_undone t [] p free = refl
same_outside_undone t (i ∷ is) p free =
    same_outside_back (content_undone t is).rows i p (free_first p (cells_altered i) (all_altered is) free)
    ∙ same_outside_undone t is p (free_rest p (cells_altered i) (all_altered is) free)

-- ---- the same in what is altered, where that is apart

place_of_whole : (table : ℕ) (key : Key) (cells : List Cell) → list_any (overlaps (Whole table)) cells ≡ false → IsFreePlace (table, key) cells
place_of_whole table key [] free = refl
place_of_whole table key (cell ∷ cells) free =
    neither _ _ (one cell (neither_first _ _ free)) (place_of_whole table key cells (neither_second _ _ free))
  where
    one : (other : Cell) → overlaps (Whole table) other ≡ false → overlaps (Row table key) other ≡ false
    one (Row at own) e = ap (λ b. b && same_key key own) e
    one (Uniq at number values) e = refl
    one (Whole at) e = e

module _ (schema : Schema) (rows others : Rows) (cells : List Cell) (same : IsSameOutside rows others cells) where
  wholes_same : (ws : List Wiped) → shares_cell (map (λ (w : Wiped). Whole w.table) ws) cells ≡ false
      → AreSame schema rows others (map (λ (w : Wiped). Whole w.table) ws)
  wholes_same [] apart = tt
  wholes_same (w ∷ ws) apart =
      (λ key. same (w.table, key) (place_of_whole w.table key cells (neither_first _ _ apart)), wholes_same ws (neither_second _ _ apart))

  altered_same : (i : Inverse) → shares_cell (cells_altered i) cells ≡ false → AreSame schema rows others (cells_altered i)
  altered_same (Take table key) apart = (same (table, key) (neither_first _ _ apart), tt)
  altered_same (Put table key row) apart = (same (table, key) (neither_first _ _ apart), tt)
  altered_same (Replace table key row) apart = (same (table, key) (neither_first _ _ apart), tt)
  altered_same (Move table keys row) apart =
      (same (table, keys.value.key) (neither_first _ _ apart), (same (table, keys.value.new_key) (neither_first _ _ (neither_second _ _ apart)), tt))
  altered_same (Unwipe wiped) apart = wholes_same wiped.items apart

  pub all_altered_same : (is : List Inverse) → shares_cell (all_altered is) cells ≡ false → AreSame schema rows others (all_altered is)
  all_altered_same [] apart = tt
  all_altered_same (i ∷ is) apart =
      let parts = sym (shares_append (cells_altered i) (all_altered is) cells) ∙ apart in
      each_of_both (SameAt schema rows others) (cells_altered i) (all_altered is)
      (altered_same i (neither_first _ _ parts)) (all_altered_same is (neither_second _ _ parts))

-- ---- room elsewhere

in_unique_cells : (table : ℕ) (row : Record) (uniques : List (List ℕ)) (number : ℕ) (cell : Cell)
    → Contains (unique_cells table row number uniques) cell → table_of cell ≡ table
in_unique_cells table row [] number cell is = absurd (omega (arith, is.1))
in_unique_cells table row (columns ∷ uniques) number cell is =
    elim (Contains-append_cases (unique_cell table number (values_in columns row)) (unique_cells table row (suc number) uniques) cell is) [
      | inl here ↦ one (values_in columns row) here
      | inr later ↦ in_unique_cells table row uniques (suc number) cell later
    ]
  where
    one : (found : Option Key) → Contains (unique_cell table number found) cell → table_of cell ≡ table
    one None none = absurd (omega (arith, none.1))
    one (Some values) its = sym (ap table_of (contains_one (Uniq table number values) cell its))

-- the cells of a row lie in its table
pub in_cells_of : (schema : Schema) (table : ℕ) (row : Record) (cell : Cell) → Contains (cells_of schema table row) cell → table_of cell ≡ table
in_cells_of schema table row cell is =
    elim (Contains-append_cases (row_cell table (key_of schema table row)) (unique_cells table row 1 (keys_at schema table).uniques) cell is) [
      | inl place ↦ one (key_of schema table row) place
      | inr unique ↦ in_unique_cells table row (keys_at schema table).uniques 1 cell unique
    ]
  where
    one : (found : Option Key) → Contains (row_cell table found) cell → table_of cell ≡ table
    one None none = absurd (omega (arith, none.1))
    one (Some key) its = sym (ap table_of (contains_one (Row table key) cell its))

in_cells_in : (table : ℕ) (spots : List Spot) (cell : Cell) → Contains (map (cell_at table) spots) cell → table_of cell ≡ table
in_cells_in table [] cell is = absurd (omega (arith, is.1))
in_cells_in table (s ∷ spots) cell is =
    elim (contains_first (cell_at table s) (map (cell_at table) spots) cell is) [
      | inl same ↦ sym (ap table_of same) ∙ of_spot s.0 s.1
      | inr later ↦ in_cells_in table spots cell later
    ]
  where
    of_spot : (number : ℕ) (values : Key) → table_of (cell_of_key table number values) ≡ table
    of_spot zero values = refl
    of_spot (suc number) values = refl

-- the inverse gives no content back to the table
abbrev LeavesTable : ℕ → Inverse → Type 0
LeavesTable table (Take at key) = Unit {0}
LeavesTable table (Put at key row) = Unit {0}
LeavesTable table (Replace at key row) = Unit {0}
LeavesTable table (Move at keys row) = Unit {0}
LeavesTable table (Unwipe wiped) = AllByRecursion (λ (w : Wiped). (table == w.table) ≡ false) wiped.items

leaves_table : (table : ℕ) (key : Key) (i : Inverse) → IsFreePlace (table, key) (cells_altered i) → LeavesTable table i
leaves_table table key (Take at own) free = tt
leaves_table table key (Put at own row) free = tt
leaves_table table key (Replace at own row) free = tt
leaves_table table key (Move at keys row) free = tt
leaves_table table key (Unwipe wiped) free = each wiped.items free
  where
    each : (ws : List Wiped) → IsFreePlace (table, key) (map (λ (w : Wiped). Whole w.table) ws) → AllByRecursion (λ (w : Wiped). (table == w.table) ≡ false) ws
    each [] all = tt
    each (w ∷ ws) all = (neither_first _ _ all, each ws (neither_second _ _ all))

unwiped_less : (room : List Cell) (ws : List Wiped) (cell : Cell) → AllByRecursion (λ (w : Wiped). (table_of cell == w.table) ≡ false) ws
    → Contains (room_unwiped room ws) cell → Contains room cell
unwiped_less room [] cell all is = is
unwiped_less room (w ∷ ws) cell all is =
    elim (Contains-append_cases (cells_in w.table w.contents) (filter (is_elsewhere w.table) (room_unwiped room ws)) cell is) [
      | inl its ↦ absurd (number_is_not (table_of cell) w.table all.0 (in_cells_in w.table w.contents.room cell its))
      | inr other ↦ unwiped_less room ws cell all.1 (filter_contains (is_elsewhere w.table) (room_unwiped room ws) cell other).0
    ]

unwiped_more : (room : List Cell) (ws : List Wiped) (cell : Cell) → AllByRecursion (λ (w : Wiped). (table_of cell == w.table) ≡ false) ws
    → Contains room cell → Contains (room_unwiped room ws) cell
unwiped_more room [] cell all is = is
unwiped_more room (w ∷ ws) cell all is =
    Contains-append_right (cells_in w.table w.contents) (filter (is_elsewhere w.table) (room_unwiped room ws)) cell
    (contains_filter (is_elsewhere w.table) (room_unwiped room ws) cell (unwiped_more room ws cell all.1 is) (ap not all.0))

-- a cell of a table that gets nothing back is in the room before where it is after
back_less : (room : List Cell) (i : Inverse) (cell : Cell) → LeavesTable (table_of cell) i → Contains (room_back room i) cell → Contains room cell
back_less room (Take at key) cell leaves is = is
back_less room (Put at key row) cell leaves is = is
back_less room (Replace at key row) cell leaves is = is
back_less room (Move at keys row) cell leaves is = is
back_less room (Unwipe wiped) cell leaves is = unwiped_less room wiped.items cell leaves is

back_more : (room : List Cell) (i : Inverse) (cell : Cell) → LeavesTable (table_of cell) i → Contains room cell → Contains (room_back room i) cell
back_more room (Take at key) cell leaves is = is
back_more room (Put at key row) cell leaves is = is
back_more room (Replace at key row) cell leaves is = is
back_more room (Move at keys row) cell leaves is = is
back_more room (Unwipe wiped) cell leaves is = unwiped_more room wiped.items cell leaves is

-- of a list of them
undone_more : (t : Content) (is : List Inverse) (cell : Cell) → AllByRecursion (LeavesTable (table_of cell)) is
    → Contains t.room cell → Contains (content_undone t is).room cell
undone_more t [] cell leaves is = is
undone_more t (i ∷ rest) cell leaves is = back_more (content_undone t rest).room i cell leaves.0 (undone_more t rest cell leaves.1 is)

all_leave_table : (table : ℕ) (key : Key) (is : List Inverse) → IsFreePlace (table, key) (all_altered is) → AllByRecursion (LeavesTable table) is
all_leave_table table key [] free = tt
all_leave_table table key (i ∷ is) free = (
  leaves_table table key i (free_first (table, key) (cells_altered i) (all_altered is) free),
  all_leave_table table key is (free_rest (table, key) (cells_altered i) (all_altered is) free),
)

-- a cell that an inverse needs lies in a table where it alters a place, which is free of what is apart from it
module _ (schema : Schema) (cells : List Cell) where
  needed_place : (i : Inverse) → shares_cell (cells_altered i) cells ≡ false → (cell : Cell) → Contains (cells_needed schema i) cell
      → (key : Key) × IsFreePlace (table_of cell, key) cells
  needed_place (Take table key) apart cell needs = absurd (omega (arith, needs.1))
  needed_place (Put table key row) apart cell needs =
      (key, subst (λ (n : ℕ). IsFreePlace (n, key) cells) (sym (in_cells_of schema table row cell needs)) (neither_first _ _ apart))
  needed_place (Replace table key row) apart cell needs =
      (key, subst (λ (n : ℕ). IsFreePlace (n, key) cells) (sym (in_cells_of schema table row cell needs)) (neither_first _ _ apart))
  needed_place (Move table keys row) apart cell needs =
      (keys.value.key, subst (λ (n : ℕ). IsFreePlace (n, keys.value.key) cells) (sym (in_cells_of schema table row cell needs)) (neither_first _ _ apart))
  needed_place (Unwipe wiped) apart cell needs = absurd (omega (arith, needs.1))

  pub all_needed_place : (is : List Inverse) → shares_cell (all_altered is) cells ≡ false → (cell : Cell) → Contains (all_needed schema is) cell
      → (key : Key) × IsFreePlace (table_of cell, key) cells
  all_needed_place [] apart cell needs = absurd (omega (arith, needs.1))
  all_needed_place (i ∷ is) apart cell needs =
      let parts = sym (shares_append (cells_altered i) (all_altered is) cells) ∙ apart in
      elim (Contains-append_cases (cells_needed schema i) (all_needed schema is) cell needs) [
        | inl its ↦ needed_place i (neither_first _ _ parts) cell its
        | inr later ↦ all_needed_place is (neither_second _ _ parts) cell later
      ]

-- ---- past what another did

-- another's change was applied
pub CanUndo_past_change : (old new : Content) (is : List Inverse) (other : Inverse) → new.schema ≡ old.schema
    → back new.rows (edits_of other) ≡ old.rows → KeepsCells old.room (room_back new.room other)
    → shares_cell (all_altered is) (cells_altered other) ≡ false → AreValidBack new is → CanUndo old is → CanUndo new is
CanUndo_past_change old new is other schema rows room apart valid can =
    CanUndo_past old new schema is
    (all_altered_same old.schema old.rows new.rows (cells_altered other)
    (λ p free. ap (λ (r : Rows). get r p) (sym rows) ∙ same_outside_back new.rows other p free) is apart) valid
    (λ cell needs was.
    let beside = all_needed_place old.schema (cells_altered other) is apart cell needs in
    back_less new.room other cell (leaves_table (table_of cell) beside.0 other beside.1) (room cell was))
    can

-- another's changes were undone
pub CanUndo_past_undo : (old new : Content) (is others : List Inverse) → new.schema ≡ old.schema
    → new.rows ≡ (content_undone old others).rows → KeepsCells (content_undone old others).room new.room
    → shares_cell (all_altered is) (all_altered others) ≡ false → AreValidBack new is → CanUndo old is → CanUndo new is
CanUndo_past_undo old new is others schema rows room apart valid can =
    CanUndo_past old new schema is
    (all_altered_same old.schema old.rows new.rows (all_altered others)
    (λ p free. sym (ap (λ (r : Rows). get r p) rows ∙ same_outside_undone old others p free)) is apart) valid
    (λ cell needs was.
    let beside = all_needed_place old.schema (all_altered others) is apart cell needs in
    room cell (undone_more old others cell (all_leave_table (table_of cell) beside.0 others beside.1) was))
    can

-- ---- past what another gave up

-- whether a cell is among these
pub among : (cells : List Cell) (cell : Cell) → Contains cells cell ⊎ ¬ Contains cells cell
among cells cell =
    elim (list_any (eq_by_cmp cell_cmp cell) cells) as (λ b. list_any (eq_by_cmp cell_cmp cell) cells ≡ b → Contains cells cell ⊎ ¬ Contains cells cell) [
      | true ↦ λ is. inl (Contains-from_any (tells_apart cell_cmp_exact) cell cells is)
      | false ↦ λ is. inr (λ has. true≢false (sym (list_any-from_Contains (eq_by_cmp_equiv cell_cmp_total) cell cells has) ∙ is))
    ] refl

rows_alike : (old new : Content) → new.rows ≡ old.rows → (is : List Inverse) → (content_undone old is).rows ≡ (content_undone new is).rows
rows_alike old new rows is =
    rows_undone old is ∙ ap (λ (r : Rows). all_back r (map edits_of is)) (sym rows) ∙ sym (rows_undone new is)

valid_alike : (old new : Content) → new.schema ≡ old.schema → new.rows ≡ old.rows → (is : List Inverse) → CanUndo old is → AreValidBack new is
valid_alike old new schema rows [] can = tt
valid_alike old new schema rows (i ∷ is) can = (
  valid_alike old new schema rows is can.0,
  subst (λ (s : Schema). IsValid s (content_undone new (i ∷ is)).rows) (schema_undone old is ∙ sym schema)
      (subst (IsValid (content_undone old is).schema) (rows_alike old new rows (i ∷ is)) can.1.valid),
)

-- the same rows are the same in each cell
alike_each : (schema : Schema) (rows others : Rows) → rows ≡ others → (cells : List Cell) → AreSame schema rows others cells
alike_each schema rows others same [] = tt
alike_each schema rows others same (cell ∷ cells) =
    (subst (λ (r : Rows). SameAt schema rows r cell) same (same_at_itself schema rows cell), alike_each schema rows others same cells)

-- cells went from the room, but none that is needed, unless a row fills it
pub CanUndo_past_gone : (old new : Content) (is : List Inverse) → new.schema ≡ old.schema → new.rows ≡ old.rows → HasRoomForAll new
    → ((cell : Cell) → Contains (all_needed old.schema is) cell → StaysInRoom old new cell ⊎ IsFilled old.schema old.rows cell)
    → CanUndo old is → CanUndo new is
CanUndo_past_gone old new is schema rows room stays_or_filled can =
    CanUndo_past old new schema is (alike_each old.schema old.rows new.rows (sym rows) (all_altered is))
    (valid_alike old new schema rows is can)
    (λ cell needs was. elim (stays_or_filled cell needs) [
      | inl stays ↦ stays was
      | inr f ↦
          room (table_of cell) f.key f.row (ap (λ (r : Rows). get r (table_of cell, f.key)) rows ∙ f.at) cell
          (subst (λ (s : Schema). Contains (cells_of s (table_of cell) f.row) cell) (sym schema) f.fills)
    ])
    can

-- another has committed, and gave up the cells that only it needed
pub CanUndo_past_settle : (old new : Content) (is others : List Inverse) → new.schema ≡ old.schema → new.rows ≡ old.rows
    → HasRoomForAll new
    → ((cell : Cell) → ¬ Contains (all_settled old.schema others) cell → StaysInRoom old new cell)
    → ((cell : Cell) → Contains (all_needed old.schema is) cell → Contains (all_settled old.schema others) cell → IsFilled old.schema old.rows cell)
    → CanUndo old is → CanUndo new is
CanUndo_past_settle old new is others schema rows room stays filled can =
    CanUndo_past_gone old new is schema rows room
    (λ cell needs. elim (among (all_settled old.schema others) cell) [
      | inr not ↦ inl (stays cell not)
      | inl settled ↦ inr (filled cell needs settled)
    ])
    can
