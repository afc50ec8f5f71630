-- Tables that are emptied one after another.
use Rattle.std.specs.Prelude.{◌≡◌, ℕ, ◌+◌, ◌<◌, ◌≤◌, ◌==◌, Bool, true, false, cond, not, ◌||◌, filter, List, [], ◌∷◌, ◌++◌, Option, Some, None, map, length, take, get_or, Contains, refl, Ok}
use Rattle.std.proofs.Common.{zero, suc, arith, sym, ◌∙◌, ap, subst, take-suc, take_all, add-one}
use Rattle.std.proofs.Common.{Vec, Global}
use Rattle.std.specs.FinMap.{get-empty}
use Rattle.model.specs.Rows.{place_cmp}
use Rattle.std.proofs.lemmas.List.Elements.{Contains-append_left, Contains-append_right}
use Rattle.std.specs.FinMap.{get}
use Rattle.model.specs.declared.row.Row.{Row}
use Rattle.model.specs.declared.cell.Cell.{Cell}
use Rattle.model.specs.declared.change.Change.TheVariants.{Wipe}
use Rattle.model.specs.Rows.{Place, Rows, Schema, keys_at}
use Rattle.model.specs.Effect.{Edits, effect, inverse, back, all_back}
use Rattle.model.specs.EditLemmas.{same_rows, same_edits}
use Rattle.model.specs.EffectLemmas.{is_named, row_before_wipe, get_effect_wipe, get_inverse_wipe}
use Rattle.model.specs.Cells.{table_of}
use Rattle.indexes.specs.Content.{Content, KeepsCells, IsTable, SameElsewhere, SameRoomElsewhere}
use Rattle.indexes.specs.Table.{cells_in}
use Rattle.change.specs.declared.inverse.Wiped.{Wiped}
use Rattle.change.specs.declared.inverse.Inverse.TheVariants.{Unwipe}
use Rattle.change.specs.Edits.{laid_together, or_else}
use Rattle.change.specs.EditsLemmas.{get_over, as_edit, get_rows_held_at, get_rows_held_other, back_rows_held, number_is, number_is_not}
use Rattle.change.specs.Inverse.{rows_held, HasNoRows, is_elsewhere, room_with, room_unwiped, AreKnown, AreEmpty, CanUnwipe}
use Rattle.change.specs.InverseLemmas.{rows_held_last, unwiped_last, room_unwiped_last, known_more, empty_more, contains_filter, room_unwiped_keeps}
use Rattle.change.specs.Applied.{IsSound}
use Rattle.change.specs.declared.outcome.Applied.TheVariants.{Done as DoneWith}
use Rattle.change.specs.Leaving.{Leaves}
use Rattle.change.proofs.Outcomes.{leaves}
use Rattle.change.proofs.Altering.{wipe_alters}

-- ---- the edits of one more

or_else_assoc : {X : Type 0} (a b c : Option X) → or_else a (or_else b c) ≡ or_else (or_else a b) c
or_else_assoc None b c = refl
or_else_assoc (Some a) b c = refl

or_else_none : {X : Type 0} (a : Option X) → or_else a None ≡ a
or_else_none None = refl
or_else_none (Some a) = refl

get_together_last : (es : List Edits) (f : Edits) (p : Place) → get (laid_together (es ++ f ∷ [])) p ≡ or_else (get (laid_together es) p) (get f p)
get_together_last [] f p =
    get_over f (laid_together []) p ∙ ap (or_else (get f p)) (get-empty place_cmp p) ∙ or_else_none (get f p) ∙ ap (λ e. or_else e (get f p)) (sym (get-empty place_cmp p))
get_together_last (e ∷ es) f p =
    get_over e (laid_together (es ++ f ∷ [])) p
    ∙ ap (or_else (get e p)) (get_together_last es f p)
    ∙ or_else_assoc (get e p) (get (laid_together es) p) (get f p)
    ∙ ap (λ x. or_else x (get f p)) (sym (get_over e (laid_together es) p))

-- ---- the tables named so far

named_more : (tables : List ℕ) (i table t : ℕ) → i < length tables → table ≡ get_or tables i table → is_named (take (i + 1) tables) t ≡ (is_named (take i tables) t || (t == table))
named_more tables i table t below is =
    ap (λ n. is_named (take n tables) t) (add-one i)
    ∙ ap (λ l. is_named l t) (take-suc tables i table below)
    ∙ named_last (take i tables) (get_or tables i table) t
    ∙ ap (λ n. is_named (take i tables) t || (t == n)) (sym is)
  where
    named_last : (ts : List ℕ) (last t : ℕ) → is_named (ts ++ last ∷ []) t ≡ (is_named ts t || (t == last))
    named_last [] last t = elim (t == last) as (λ b. (b || false) ≡ b) [ true ↦ refl | false ↦ refl ]
    named_last (first ∷ ts) last t =
        ap (λ b. (t == first) || b) (named_last ts last t)
        ∙ elim (t == first) as (λ b. (b || (is_named ts t || (t == last))) ≡ ((b || is_named ts t) || (t == last))) [ true ↦ refl | false ↦ refl ]

gone_here : (named : Bool) (row : Option Row) → None ≡ cond (named || true) None row
gone_here true row = refl
gone_here false row = refl

left_elsewhere : (named : Bool) (row : Option Row) → cond named None row ≡ cond (named || false) None row
left_elsewhere true row = refl
left_elsewhere false row = refl

edited_here : (named : Bool) (row : Option Row) → or_else (row_before_wipe named row) (as_edit (cond named None row)) ≡ row_before_wipe (named || true) row
edited_here true None = refl
edited_here true (Some row) = refl
edited_here false None = refl
edited_here false (Some row) = refl

edited_elsewhere : (named : Bool) (row : Option Row) → or_else (row_before_wipe named row) None ≡ row_before_wipe (named || false) row
edited_elsewhere true None = refl
edited_elsewhere true (Some row) = refl
edited_elsewhere false None = refl
edited_elsewhere false (Some row) = refl

pub read_again : (xs : List ℕ) (i d e : ℕ) → i < length xs → get_or xs i d ≡ get_or xs i e
read_again [] i d e below = absurd (omega arith)
read_again (x ∷ xs) zero d e below = refl
read_again (x ∷ xs) (suc i) d e below = read_again xs i d e (omega arith)

-- ---- one more table is emptied

-- so far: what is left, and what gives it back
pub record IsWiped (start t : Content) (named : List ℕ) (ws : List Wiped) : Type 0 where
  pub schema : t.schema ≡ start.schema
  pub rows : (p : Place) → get t.rows p ≡ cond (is_named named p.0) None (get start.rows p)
  pub edits : (p : Place) → get (laid_together (map rows_held ws)) p ≡ row_before_wipe (is_named named p.0) (get start.rows p)
  pub can : CanUnwipe t ws
  pub undone : all_back t.rows (map rows_held ws) ≡ start.rows
  pub room : KeepsCells start.room (room_unwiped t.room ws)
  pub tables : map (λ (w : Wiped). w.table) ws ≡ named

pub nothing_wiped : (start : Content) → IsWiped start start [] []
nothing_wiped start = record {
  schema = refl;
  rows = λ p. refl;
  edits = λ p. get-empty place_cmp p ∙ none_standing (get start.rows p);
  can = record { known = tt; empty = tt };
  undone = refl;
  room = λ cell is. is;
  tables = refl;
}
  where
    none_standing : (row : Option Row) → None ≡ row_before_wipe false row
    none_standing None = refl
    none_standing (Some row) = refl

module _ (start t new : Content) (tables : List ℕ) (i : ℕ) (ws : List Wiped) (w : Wiped) (far : IsWiped start t (take i tables) ws)
    (below : i < length tables) (item : w.table ≡ get_or tables i w.table) (known : w.table < length t.schema)
    (schema : new.schema ≡ t.schema) (empty : HasNoRows new.rows w.table) (elsewhere : SameElsewhere t.rows new.rows w.table)
    (room_elsewhere : SameRoomElsewhere t.room new.room w.table) (keys : w.contents.keys ≡ keys_at t.schema w.table) (out : IsTable t.rows w.table w.contents.rows)
    (room_out : (c : Cell) → table_of c ≡ w.table → Contains t.room c → Contains (cells_in w.table w.contents) c) where
  abbrev before : Place → Bool
  before p = is_named (take i tables) p.0

  more_rows : (p : Place) (b : Bool) → (p.0 == w.table) ≡ b → get new.rows p ≡ cond (before p || b) None (get start.rows p)
  more_rows p true is = subst (λ (n : ℕ). get new.rows (n, p.1) ≡ None) (sym (number_is p.0 w.table is)) (empty p.1) ∙ gone_here (before p) (get start.rows p)
  more_rows p false is = elsewhere p.0 p.1 (number_is_not p.0 w.table is) ∙ far.rows p ∙ left_elsewhere (before p) (get start.rows p)

  given : (p : Place) (b : Bool) → (p.0 == w.table) ≡ b → or_else (row_before_wipe (before p) (get start.rows p)) (get (rows_held w) p) ≡ row_before_wipe (before p || b) (get start.rows p)
  given p true is =
      ap (or_else (row_before_wipe (before p) (get start.rows p)))
      (subst (λ (n : ℕ). get (rows_held w) (n, p.1) ≡ as_edit (get t.rows (n, p.1))) (sym (number_is p.0 w.table is)) (get_rows_held_at w p.1 ∙ ap as_edit (sym (out p.1)))
      ∙ ap as_edit (far.rows p))
      ∙ edited_here (before p) (get start.rows p)
  given p false is = ap (or_else (row_before_wipe (before p) (get start.rows p))) (get_rows_held_other w p is) ∙ edited_elsewhere (before p) (get start.rows p)

  more_edits : (p : Place) → get (laid_together (map rows_held (ws ++ w ∷ []))) p ≡ row_before_wipe (before p || (p.0 == w.table)) (get start.rows p)
  more_edits p =
      ap (λ (es : List Edits). get (laid_together es) p) (rows_held_last ws w)
      ∙ get_together_last (map rows_held ws) (rows_held w) p
      ∙ ap (λ e. or_else e (get (rows_held w) p)) (far.edits p)
      ∙ given p (p.0 == w.table) refl

  was : t.rows ≡ back new.rows (rows_held w)
  was = back_rows_held new.rows t.rows w empty out (λ other key apart. sym (elsewhere other key apart))

  kept : KeepsCells t.room (room_with new.room w)
  kept cell is = by (table_of cell == w.table) refl
    where
      by : (b : Bool) → (table_of cell == w.table) ≡ b → Contains (room_with new.room w) cell
      by true here = Contains-append_left (cells_in w.table w.contents) (filter (is_elsewhere w.table) new.room) cell (room_out cell (number_is (table_of cell) w.table here) is)
      by false other =
          Contains-append_right (cells_in w.table w.contents) (filter (is_elsewhere w.table) new.room) cell
          (contains_filter (is_elsewhere w.table) new.room cell (room_elsewhere cell (number_is_not (table_of cell) w.table other) is) (ap not other))

  pub one_more_wiped : IsWiped start new (take (i + 1) tables) (ws ++ w ∷ [])
  one_more_wiped = record {
    schema = schema ∙ far.schema;
    rows = λ p. more_rows p (p.0 == w.table) refl ∙ ap (λ b. cond b None (get start.rows p)) (sym (named_more tables i w.table p.0 below item));
    edits = λ p. more_edits p ∙ ap (λ b. row_before_wipe b (get start.rows p)) (sym (named_more tables i w.table p.0 below item));
    can = record {
      known = subst (λ (s : Schema). AreKnown s (ws ++ w ∷ [])) (sym schema) (known_more t.schema ws w far.can.known (known, keys));
      empty = empty_more new.rows ws w (subst (λ (r : Rows). AreEmpty r ws) was far.can.empty) empty;
    };
    undone = unwiped_last new.rows ws w ∙ ap (λ (r : Rows). all_back r (map rows_held ws)) (sym was) ∙ far.undone;
    room = λ cell is. subst (λ (r : List Cell). Contains r cell) (sym (room_unwiped_last new.room ws w))
        (room_unwiped_keeps t.room (room_with new.room w) ws kept cell (far.room cell is));
    tables = tables_last ws ∙ ap (λ (ts : List ℕ). ts ++ w.table ∷ []) far.tables
        ∙ ap (λ n. take i tables ++ n ∷ []) (item)
        ∙ sym (ap (λ n. take n tables) (add-one i) ∙ take-suc tables i w.table below);
  }
    where
      tables_last : (vs : List Wiped) → map (λ (v : Wiped). v.table) (vs ++ w ∷ []) ≡ map (λ (v : Wiped). v.table) vs ++ w.table ∷ []
      tables_last [] = refl
      tables_last (v ∷ vs) = ap (λ (ts : List ℕ). v.table ∷ ts) (tables_last vs)

-- ---- all of them are emptied

module _ (start t : Content) (tables : List ℕ) (i : ℕ) (wiped : Vec Wiped Global) (far : IsWiped start t (take i tables) wiped.items) (past : length tables ≤ i) (sound : IsSound start) where
  all_named : take i tables ≡ tables
  all_named = take_all i tables past

  wipe_ok : t.rows ≡ effect start.schema start.rows (Wipe tables)
  wipe_ok = same_rows _ _ (λ p.
      far.rows p ∙ ap (λ ts. cond (is_named ts p.0) None (get start.rows p)) all_named ∙ sym (get_effect_wipe start.schema start.rows tables p))

  wipe_inverse : laid_together (map rows_held wiped.items) ≡ inverse start.schema start.rows (Wipe tables)
  wipe_inverse = same_edits _ _ (λ p.
      far.edits p ∙ ap (λ ts. row_before_wipe (is_named ts p.0) (get start.rows p)) all_named ∙ sym (get_inverse_wipe start.schema start.rows tables p))

  pub wipe_leaves : Leaves start t (Wipe tables) (Ok (DoneWith (Unwipe wiped)))
  wipe_leaves =
      leaves start t (Wipe tables) (Unwipe wiped) sound.valid tt far.schema wipe_ok wipe_inverse
      (wipe_alters start.schema start.rows tables wiped.items (far.tables ∙ all_named)) (subst (λ (s : Schema). AreKnown s wiped.items) far.schema far.can.known)
      far.can.empty tt far.room
