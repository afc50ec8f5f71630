-- What a change that is done leaves, and that its inverse can be put back.
use Rattle.std.specs.Prelude.{◌≡◌, ℕ, ◌<◌, Bool, true, false, cond, if◌then◌else◌, List, [], ◌∷◌, Option, Some, None, length, IsSome, is_some, not, refl, Ok, Err}
use Rattle.std.proofs.Common.{Box, Global, sym, ◌∙◌, ap, subst, true≢false, inl, inr}
use Rattle.std.proofs.lemmas.List.Elements.{Contains-append_left}
use Rattle.std.specs.FinMap as map_of
use Rattle.std.specs.FinMap.{get, insert, remove}
use Rattle.model.specs.declared.key.Key.{Key}
use Rattle.model.specs.declared.row.Row.{Row}
use Rattle.model.specs.declared.cell.Cell.TheVariants.{Row as RowCell}
use Rattle.model.specs.declared.change.Change.{Change}
use Rattle.model.specs.declared.change.Change.TheVariants.{Put as PutRow, Set, Remove}
use Rattle.model.specs.declared.patch.ColumnPatch.{ColumnPatch}
use Rattle.model.specs.Rows.{Place, Rows, Schema, keys_at, key_of, IsValid, is_place}
use Rattle.model.specs.Effect.{Edits, one_edit, Done, Skip, Clashes, Unique, row_outcome, row_outcome_at, unless_taken, patch_row, set_outcome, remove_outcome, outcome, effect, inverse, back, first_taken}
use Rattle.model.specs.EditLemmas.{same_edits, same_place, place_is, place_cases, get_insert_same, get_insert_other, get_remove_same, get_remove_other, get_edit, get_one_edit, overlay_one, overlay_two, rows_under_one, rows_under_two}
use Rattle.model.specs.EffectLemmas.{row_outcome_free, effect_skipped, effect_of, inverse_of, back_of_inverse}
use Rattle.model.specs.Footprint.{footprint}
use Rattle.indexes.specs.Content.{Content, KeepsCells, least_taken}
use Rattle.change.specs.Applied.{IsSound, IsDone, AnswersOutcome}
use Rattle.change.specs.Leaving.{Leaves}
use Rattle.change.specs.declared.outcome.Applied.TheVariants.{Done as DoneWith, Skipped}
use Rattle.change.specs.declared.outcome.Clash.{Clash}
use Rattle.change.specs.Altered.{cells_altered}
use Rattle.change.specs.declared.inverse.MovedKeys.{MovedKeys}
use Rattle.change.specs.declared.inverse.Inverse.{Inverse}
use Rattle.change.specs.declared.inverse.Inverse.TheVariants.{Take, Put, Replace, Move}
use Rattle.change.specs.Inverse.{edits_of, room_back, HasRow, HasNoRow, IsKnown, AsLeft, HasItsRoom}
use Rattle.change.proofs.Altering.{put_alters, set_alters, remove_alters}
use Rattle.change.proofs.Restoring.{written_over}

-- once it is put back the rows are as before, so they are valid
pub back_is_old : (old new : Content) (c : Change) (i : Inverse)
    → new.rows ≡ effect old.schema old.rows c → edits_of i ≡ inverse old.schema old.rows c → back new.rows (edits_of i) ≡ old.rows
back_is_old old new c i rows edits =
    ap (λ (e : Edits). back new.rows e) edits ∙ ap (λ (r : Rows). back r (inverse old.schema old.rows c)) rows ∙ back_of_inverse old.schema old.rows c

-- one that is skipped leaves all as it was
pub skipped_leaves : (t : Content) (c : Change) → outcome t.schema t.rows c ≡ Skip → Leaves t t c (Ok Skipped)
skipped_leaves t c skipped = record {
  answer = skipped;
  ok = sym (effect_skipped t.schema t.rows c skipped);
  err = tt;
  inverse = tt;
  altered = tt;
  can_put_back = tt;
  room = λ cell is. is;
  schema = refl;
}

-- one that is refused leaves the rows, and perhaps more room
pub refused_leaves : (old new : Content) (c : Change) (e : Clash) → AnswersOutcome (outcome old.schema old.rows c) (Err e) → new.rows ≡ old.rows
    → KeepsCells old.room new.room → new.schema ≡ old.schema → Leaves old new c (Err e)
refused_leaves old new c e answer rows room schema = record {
  answer = answer;
  ok = tt;
  err = rows;
  inverse = tt;
  altered = tt;
  can_put_back = tt;
  room = room;
  schema = schema;
}

-- one that is done leaves its effect, with an inverse that is known, as left and with its room
pub leaves : (old new : Content) (c : Change) (i : Inverse) → IsValid old.schema old.rows → IsDone (outcome old.schema old.rows c)
    → new.schema ≡ old.schema → new.rows ≡ effect old.schema old.rows c → edits_of i ≡ inverse old.schema old.rows c
    → KeepsCells (cells_altered i) (footprint old.schema old.rows c) → IsKnown old.schema i → AsLeft new.rows i → HasItsRoom old.schema new.room i
    → KeepsCells old.room (room_back new.room i) → Leaves old new c (Ok (DoneWith i))
leaves old new c i valid answer schema rows edits altered known left its_room room = record {
  answer = answer;
  ok = rows;
  err = tt;
  inverse = edits;
  altered = altered;
  can_put_back = record {
    known = subst (λ (s : Schema). IsKnown s i) (sym schema) known;
    as_left = left;
    valid = subst (λ (s : Schema). IsValid s (back new.rows (edits_of i))) (sym schema)
        (subst (λ (r : Rows). IsValid old.schema r) (sym (back_is_old old new c i rows edits)) valid);
    room = subst (λ (s : Schema). HasItsRoom s new.room i) (sym schema) its_room;
  };
  room = room;
  schema = schema;
}

-- ---- a row is removed

module _ (old new : Content) (table : ℕ) (key copy : Key) (row : Row) (same : copy ≡ key) (sound : IsSound old) (known : table < length old.schema)
    (at_copy : get old.rows (table, copy) ≡ Some row) (schema : new.schema ≡ old.schema) (rows : new.rows ≡ remove old.rows (table, copy))
    (kept : KeepsCells old.room new.room) where
  abbrev asked : Change
  asked = Remove table key

  remove_there : get old.rows (table, key) ≡ Some row
  remove_there = ap (λ (k : Key). get old.rows (table, k)) (sym same) ∙ at_copy

  remove_done : outcome old.schema old.rows asked ≡ Done (one_edit (table, key) None)
  remove_done = ap (remove_outcome (table, key)) remove_there

  remove_ok : new.rows ≡ effect old.schema old.rows asked
  remove_ok =
      rows ∙ ap (λ (k : Key). remove old.rows (table, k)) same ∙ sym (overlay_one old.rows (table, key) None)
      ∙ sym (effect_of old.schema old.rows asked (Done (one_edit (table, key) None)) remove_done)

  remove_inverse : edits_of (Put table copy row) ≡ inverse old.schema old.rows asked
  remove_inverse =
      ap (λ (k : Key). one_edit (table, k) (Some row)) same ∙ ap (one_edit (table, key)) (sym remove_there) ∙ sym (rows_under_one old.rows (table, key) None)
      ∙ sym (inverse_of old.schema old.rows asked (Done (one_edit (table, key) None)) remove_done)

  pub remove_leaves : Leaves old new asked (Ok (DoneWith (Put table copy row)))
  remove_leaves =
      leaves old new asked (Put table copy row) sound.valid (subst IsDone (sym remove_done) tt) schema remove_ok remove_inverse
      (remove_alters old.schema old.rows table key copy same) known (ap (λ (r : Rows). get r (table, copy)) rows ∙ get_remove_same old.rows (table, copy))
      (λ cell is. kept cell (sound.room table copy row at_copy cell is)) kept

-- ---- a row comes into its table

none_least : (stands : Option Row) (first : Option ℕ) → (if is_some stands then Some 0 else first) ≡ None → (stands ≡ None) × (first ≡ None)
none_least None first none = (refl, none)
none_least (Some row) first none = absurd cc

-- where no key is taken, no row stands at its key, and none has its unique values
pub none_taken : (schema : Schema) (rows : Rows) (table : ℕ) (row : Row) (key : Key) → least_taken schema rows table key row ≡ None
    → (get rows (table, key) ≡ None) × (first_taken rows table row 1 (keys_at schema table).uniques ≡ None)
none_taken schema rows table row key = none_least (get rows (table, key)) (first_taken rows table row 1 (keys_at schema table).uniques)

module _ (old new : Content) (table : ℕ) (row : Row) (key copy : Key) (same : copy ≡ key) (valid : IsValid old.schema old.rows) (known : table < length old.schema)
    (own : key_of old.schema table row ≡ Some key) (free : get old.rows (table, key) ≡ None)
    (none : first_taken old.rows table row 1 (keys_at old.schema table).uniques ≡ None)
    (schema : new.schema ≡ old.schema) (rows : new.rows ≡ insert old.rows (table, key) row) (kept : KeepsCells old.room new.room) where
  abbrev asked_put : Change
  asked_put = PutRow table row

  put_done : outcome old.schema old.rows asked_put ≡ Done (one_edit (table, key) (Some row))
  put_done = row_outcome_free old.schema old.rows map_of.empty table row key own free none

  put_ok : new.rows ≡ effect old.schema old.rows asked_put
  put_ok =
      rows ∙ sym (overlay_one old.rows (table, key) (Some row))
      ∙ sym (effect_of old.schema old.rows asked_put (Done (one_edit (table, key) (Some row))) put_done)

  put_inverse : edits_of (Take table copy) ≡ inverse old.schema old.rows asked_put
  put_inverse =
      ap (λ (k : Key). one_edit (table, k) None) same ∙ ap (one_edit (table, key)) (sym free) ∙ sym (rows_under_one old.rows (table, key) (Some row))
      ∙ sym (inverse_of old.schema old.rows asked_put (Done (one_edit (table, key) (Some row))) put_done)

  stands : IsSome (get new.rows (table, copy))
  stands = ap is_some (ap (λ (r : Rows). get r (table, copy)) rows ∙ ap (λ (k : Key). get (insert old.rows (table, key) row) (table, k)) same ∙ get_insert_same old.rows (table, key) row)

  pub put_leaves : Leaves old new asked_put (Ok (DoneWith (Take table copy)))
  put_leaves =
      leaves old new asked_put (Take table copy) valid (subst IsDone (sym put_done) tt) schema put_ok put_inverse
      (put_alters old.schema old.rows table key copy row same own) known stands tt kept

-- ---- a row is replaced

either_first : {X : Type 0} (a b : Bool) (x y z : X) → ¬ ((a ≡ true) × (b ≡ true)) → cond a x (cond b y z) ≡ cond b y (cond a x z)
either_first true true x y z apart = absurd (apart (refl, refl))
either_first true false x y z apart = refl
either_first false b x y z apart = refl

-- edits at two places may come in either order
pub apart_orders : (p q : Place) (edit other : Option Row) → is_place p q ≡ false → insert (one_edit p edit) q other ≡ insert (one_edit q other) p edit
apart_orders p q edit other apart = same_edits _ _ (λ r.
    get_edit (one_edit p edit) q other r
    ∙ ap (cond (is_place r q) (Some other)) (get_one_edit p edit r)
    ∙ either_first (is_place r q) (is_place r p) (Some other) (Some edit) None
    (λ both. true≢false (sym (same_place q) ∙ ap (λ (s : Place). is_place s q) (sym (place_is r q both.0) ∙ place_is r p both.1) ∙ apart))
    ∙ ap (cond (is_place r p) (Some edit)) (sym (get_one_edit q other r))
    ∙ sym (get_edit (one_edit q other) p edit r))

-- it is looked up, and the patched row comes into the rest
pub set_as_placed : (schema : Schema) (rows : Rows) (table : ℕ) (key : Key) (patch : List ColumnPatch) (was row : Row)
    → get rows (table, key) ≡ Some was → row ≡ patch_row patch was
    → outcome schema rows (Set table key patch) ≡ row_outcome schema (remove rows (table, key)) (one_edit (table, key) None) table row
set_as_placed schema rows table key patch was row there row_is =
    ap (set_outcome schema rows (table, key) patch) there ∙ ap (row_outcome schema (remove rows (table, key)) (one_edit (table, key) None) table) (sym row_is)

-- a row stands at its key
pub placed_held : (schema : Schema) (rows : Rows) (edits : Edits) (table : ℕ) (row : Row) (key : Key)
    → key_of schema table row ≡ Some key → is_some (get rows (table, key)) ≡ true → row_outcome schema rows edits table row ≡ Clashes (Unique table 0)
placed_held schema rows edits table row key own held =
    ap (row_outcome_at schema rows edits table row) own
    ∙ ap (λ b. if b then Clashes (Unique table 0) else unless_taken table (first_taken rows table row 1 (keys_at schema table).uniques) (insert edits (table, key) (Some row))) held

pub none_of : (row : Option Row) → is_some row ≡ false → row ≡ None
none_of None e = refl
none_of (Some row) e = cc

module _ (old new : Content) (table : ℕ) (key stood_at : Key) (new_key stands_at : Key) (patch : List ColumnPatch) (was row : Row)
    (same_key : stood_at ≡ key) (same_new : stands_at ≡ new_key) (sound : IsSound old) (known : table < length old.schema)
    (there : get old.rows (table, key) ≡ Some was) (row_is : row ≡ patch_row patch was)
    (own : key_of old.schema table row ≡ Some new_key) (free : get (remove old.rows (table, key)) (table, new_key) ≡ None)
    (none : first_taken (remove old.rows (table, key)) table row 1 (keys_at old.schema table).uniques ≡ None)
    (schema : new.schema ≡ old.schema) (rows : new.rows ≡ insert (remove old.rows (table, key)) (table, new_key) row)
    (kept : KeepsCells old.room new.room) where
  abbrev asked_set : Change
  asked_set = Set table key patch

  abbrev set_edits : Edits
  set_edits = insert (one_edit (table, key) None) (table, new_key) (Some row)

  set_done : outcome old.schema old.rows asked_set ≡ Done set_edits
  set_done =
      set_as_placed old.schema old.rows table key patch was row there row_is
      ∙ row_outcome_free old.schema (remove old.rows (table, key)) (one_edit (table, key) None) table row new_key own free none

  set_ok : new.rows ≡ effect old.schema old.rows asked_set
  set_ok =
      rows ∙ sym (overlay_two old.rows (table, key) (table, new_key) None (Some row))
      ∙ sym (effect_of old.schema old.rows asked_set (Done set_edits) set_done)

  abbrev old_place : Place
  old_place = (table, key)

  abbrev new_place : Place
  new_place = (table, new_key)

  at_old_place : new_place ≡ old_place
      → insert (one_edit new_place None) old_place (Some was) ≡ insert (one_edit old_place (get old.rows old_place)) new_place (get old.rows new_place)
  at_old_place is =
      ap (λ (p : Place). insert (one_edit p None) old_place (Some was)) is
      ∙ written_over old_place None (Some was)
      ∙ ap (one_edit old_place) (sym there)
      ∙ sym (written_over old_place (get old.rows old_place) (get old.rows old_place))
      ∙ ap (λ (p : Place). insert (one_edit old_place (get old.rows old_place)) p (get old.rows p)) (sym is)

  at_other_place : is_place new_place old_place ≡ false
      → insert (one_edit new_place None) old_place (Some was) ≡ insert (one_edit old_place (get old.rows old_place)) new_place (get old.rows new_place)
  at_other_place other =
      apart_orders new_place old_place None (Some was) other
      ∙ ap (λ (r : Option Row). insert (one_edit old_place r) new_place None) (sym there)
      ∙ ap (insert (one_edit old_place (get old.rows old_place)) new_place) (sym (sym (get_remove_other old.rows old_place new_place other) ∙ free))

  edits_found : insert (one_edit new_place None) old_place (Some was) ≡ insert (one_edit old_place (get old.rows old_place)) new_place (get old.rows new_place)
  edits_found = elim (place_cases new_place old_place) [ inl is ↦ at_old_place is | inr other ↦ at_other_place other ]

  set_inverse : insert (one_edit (table, stands_at) None) (table, stood_at) (Some was) ≡ inverse old.schema old.rows asked_set
  set_inverse =
      ap (λ (k : Key). insert (one_edit (table, k) None) (table, stood_at) (Some was)) same_new
      ∙ ap (λ (k : Key). insert (one_edit new_place None) (table, k) (Some was)) same_key
      ∙ edits_found
      ∙ sym (rows_under_two old.rows old_place new_place None (Some row))
      ∙ sym (inverse_of old.schema old.rows asked_set (Done set_edits) set_done)

  set_stands : IsSome (get new.rows (table, stands_at))
  set_stands =
      ap is_some (ap (λ (r : Rows). get r (table, stands_at)) rows
      ∙ ap (λ (k : Key). get (insert (remove old.rows old_place) new_place row) (table, k)) same_new
      ∙ get_insert_same (remove old.rows old_place) new_place row)

  old_is_free : get (remove new.rows new_place) old_place ≡ None
  old_is_free =
      elim (place_cases old_place new_place) [
        | inl is ↦ ap (get (remove new.rows new_place)) is ∙ get_remove_same new.rows new_place
        | inr other ↦
            get_remove_other new.rows new_place old_place other
            ∙ ap (λ (r : Rows). get r old_place) rows
            ∙ get_insert_other (remove old.rows old_place) new_place row old_place other
            ∙ get_remove_same old.rows old_place
      ]

  altered : KeepsCells (RowCell table stood_at ∷ RowCell table stands_at ∷ []) (footprint old.schema old.rows asked_set)
  altered =
      set_alters old.schema old.rows table key stood_at new_key stands_at patch was same_key same_new there
      (ap (λ (r : Row). key_of old.schema table r) (sym row_is) ∙ own)

  -- it has another key
  pub move_leaves : (keys : Box MovedKeys Global) → keys.value ≡ record { key = stood_at; new_key = stands_at }
      → Leaves old new asked_set (Ok (DoneWith (Move table keys was)))
  move_leaves keys is =
      leaves old new asked_set (Move table keys was) sound.valid (subst IsDone (sym set_done) tt) schema set_ok
      (ap (λ (k : MovedKeys). insert (one_edit (table, k.new_key) None) (table, k.key) (Some was)) is ∙ set_inverse)
      (subst (λ (k : MovedKeys). KeepsCells (RowCell table k.key ∷ RowCell table k.new_key ∷ []) (footprint old.schema old.rows asked_set)) (sym is) altered)
      known
      (subst (λ (k : MovedKeys). HasRow new.rows table k.new_key × HasNoRow (remove new.rows (table, k.new_key)) table k.key) (sym is)
      (set_stands, ap (λ (k : Key). get (remove new.rows (table, k)) (table, stood_at)) same_new ∙ ap (λ (k : Key). get (remove new.rows new_place) (table, k)) same_key ∙ old_is_free))
      (λ cell is. kept cell (sound.room table key was there cell is)) kept

  -- it keeps its key
  pub replace_leaves : stands_at ≡ stood_at → Leaves old new asked_set (Ok (DoneWith (Replace table stood_at was)))
  replace_leaves is =
      leaves old new asked_set (Replace table stood_at was) sound.valid (subst IsDone (sym set_done) tt) schema set_ok
      (sym (written_over (table, stood_at) None (Some was))
      ∙ ap (λ (k : Key). insert (one_edit (table, k) None) (table, stood_at) (Some was)) (sym is) ∙ set_inverse)
      (λ cell in_one. altered cell (Contains-append_left (RowCell table stood_at ∷ []) (RowCell table stands_at ∷ []) cell in_one))
      known (subst (HasRow new.rows table) is set_stands)
      (λ cell is. kept cell (sound.room table key was there cell is)) kept

-- ---- nothing is there

pub nothing_there : (found there : Option Row) (b : Bool) → found ≡ there → is_some found ≡ not b → b ≡ true → there ≡ None
nothing_there None there b same is true_is = sym same
nothing_there (Some row) there b same is true_is = cc

pub none_is_some : (found there : Option Row) (b : Bool) → found ≡ there → b ≡ is_some found → b ≡ false → there ≡ None
none_is_some None there b same tells false_is = sym same
none_is_some (Some row) there b same tells false_is = cc

-- what stands at a place is one row
pub same_there : (found other : Row) (there : Option Row) → there ≡ Some found → there ≡ Some other → found ≡ other
same_there found other there is also = cc
