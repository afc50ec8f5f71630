-- The laws of edits over edits, and of the rows of an emptied table as edits.
--     or_none, or_both      the first of several
--     get_over, back_together      what is edited at a place; edits together put back are the edits put back from the last on
--     get_together      what edits together have at a place, of two lists one behind the other
--     get_rows_held_at, back_rows_held      what an emptied table held, place by place; put back
use Rattle.std.specs.Prelude.{◌≡◌, ℕ, ◌==◌, Bool, true, false, cond, List, [], ◌∷◌, ◌++◌, Option, Some, None, map, unwrap_or, refl}
use Rattle.std.proofs.Common.{sym, ◌∙◌, ap, subst, true≢false, rules, inl, inr}
use Rattle.std.specs.Ordering.{eq_by_cmp, ordering_then, is_eq}
use Rattle.std.specs.Cmp.{nat_cmp_total, tied_itself}
use Rattle.std.specs.FinMap.{get, entries, find, get-empty, get-entries, get-from_entries}
use Rattle.std.proofs.lemmas.Bool.{cases_Bool}
use Rattle.model.specs.declared.key.Key.{Key}
use Rattle.model.specs.declared.row.Row.{Row}
use Rattle.model.specs.Key.{key_cmp}
use Rattle.model.specs.Rows.{Place, Rows, place_cmp, place_cmp_total, is_place}
use Rattle.model.specs.Effect.{Edits, back, all_back}
use Rattle.model.specs.EditLemmas.{place_is, same_rows, get_overlay, get_edit, overlay_empty, cond_inside}
use Rattle.indexes.specs.Content.{IsTable, SameElsewhere}
use Rattle.change.specs.declared.inverse.Wiped.{Wiped}
use Rattle.change.specs.Edits.{or_else, insert_all, laid_over, laid_together}
use Rattle.change.specs.Inverse.{rows_held, HasNoRows}

-- ---- edits over edits

pub or_none : {X : Type 0} (o : Option X) → or_else o None ≡ o
or_none None = refl
or_none (Some x) = refl

pub or_both : {X : Type 0} (a b c : Option X) → or_else (or_else a b) c ≡ or_else a (or_else b c)
or_both None b c = refl
or_both (Some x) b c = refl

get_insert_all : (edits : Edits) (p : Place) (es : List (Place × Option Row)) → get (insert_all es edits) p ≡ or_else (find place_cmp p es) (get edits p)
get_insert_all edits p [] = refl
get_insert_all edits p (e ∷ es) =
    get_edit (insert_all es edits) e.0 e.1 p
    ∙ ap (cond (is_place p e.0) (Some e.1)) (get_insert_all edits p es)
    ∙ cond_inside (λ first. or_else first (get edits p)) (is_place p e.0) (Some e.1) (find place_cmp p es)

pub get_over : (edits others : Edits) (p : Place) → get (laid_over edits others) p ≡ or_else (get edits p) (get others p)
get_over edits others p = get_insert_all others p (entries edits) ∙ ap (λ e. or_else e (get others p)) (sym (get-entries edits p))

edit_or_edited : {X : Type 0} (edit other : Option X) (x : X) → unwrap_or (or_else edit other) x ≡ unwrap_or edit (unwrap_or other x)
edit_or_edited None other x = refl
edit_or_edited (Some edit) other x = refl

pub back_over : (rows : Rows) (edits others : Edits) → back rows (laid_over edits others) ≡ back (back rows others) edits
back_over rows edits others = same_rows _ _ (λ p.
    get_overlay rows (laid_over edits others) p
    ∙ ap (λ e. unwrap_or e (get rows p)) (get_over edits others p)
    ∙ edit_or_edited (get edits p) (get others p) (get rows p)
    ∙ ap (unwrap_or (get edits p)) (sym (get_overlay rows others p))
    ∙ sym (get_overlay (back rows others) edits p))

pub back_together : (rows : Rows) (es : List Edits) → back rows (laid_together es) ≡ all_back rows es
back_together rows [] = overlay_empty rows
back_together rows (edits ∷ es) = back_over rows edits (laid_together es) ∙ ap (λ (r : Rows). back r edits) (back_together rows es)

pub get_together : (es fs : List Edits) (p : Place) → get (laid_together (es ++ fs)) p ≡ or_else (get (laid_together es) p) (get (laid_together fs) p)
get_together [] fs p = ap (λ o. or_else o (get (laid_together fs) p)) (sym (get-empty place_cmp p))
get_together (e ∷ es) fs p =
    get_over e (laid_together (es ++ fs)) p
    ∙ ap (or_else (get e p)) (get_together es fs p)
    ∙ sym (or_both (get e p) (get (laid_together es) p) (get (laid_together fs) p))
    ∙ ap (λ o. or_else o (get (laid_together fs) p)) (sym (get_over e (laid_together es) p))

-- ---- places of one table

same_number : (n : ℕ) → (n == n) ≡ true
same_number n = search rules

pub number_is : (n m : ℕ) → (n == m) ≡ true → n ≡ m
number_is n m e = search rules

pub number_is_not : (n m : ℕ) → (n == m) ≡ false → ¬ (n ≡ m)
number_is_not n m e is = true≢false (sym (same_number m) ∙ ap (λ (k : ℕ). k == m) (sym is) ∙ e)

-- places of one table are the same where their keys are
pub place_in_table : (table : ℕ) (key other : Key) → is_place (table, key) (table, other) ≡ eq_by_cmp key_cmp key other
place_in_table table key other = ap (λ o. is_eq (ordering_then o (key_cmp key other))) (tied_itself nat_cmp_total table)

-- those of two tables differ
pub place_in_other : (p : Place) (table : ℕ) (key : Key) → (p.0 == table) ≡ false → is_place p (table, key) ≡ false
place_in_other p table key other =
    elim (cases_Bool (is_place p (table, key))) [
      | inl is ↦
          let same : p.0 ≡ table = ap (λ (q : Place). q.0) (place_is p (table, key) is) in
          absurd (true≢false (sym (same_number table) ∙ ap (λ (n : ℕ). n == table) (sym same) ∙ other))
      | inr is ↦ is
    ]

-- ---- an emptied table

-- an edit that puts a row, if there is one
abbrev pub as_edit : Option Row → Option (Option Row)
as_edit None = None
as_edit (Some row) = Some (Some row)

as_edit_first : (b : Bool) (row : Row) (rest : Option Row) → cond b (Some (Some row)) (as_edit rest) ≡ as_edit (cond b (Some row) rest)
as_edit_first true row rest = refl
as_edit_first false row rest = refl

abbrev placed_in : ℕ → List (Key × Row) → List (Place × Option Row)
placed_in table es = map (λ (e : Key × Row). ((table, e.0), Some e.1)) es

find_in_table : (table : ℕ) (key : Key) (es : List (Key × Row)) → find place_cmp (table, key) (placed_in table es) ≡ as_edit (find key_cmp key es)
find_in_table table key [] = refl
find_in_table table key (e ∷ es) =
    ap (λ b. cond b (Some (Some e.1)) (find place_cmp (table, key) (placed_in table es))) (place_in_table table key e.0)
    ∙ ap (cond (eq_by_cmp key_cmp key e.0) (Some (Some e.1))) (find_in_table table key es)
    ∙ as_edit_first (eq_by_cmp key_cmp key e.0) e.1 (find key_cmp key es)

find_in_other : (p : Place) (table : ℕ) (es : List (Key × Row)) → (p.0 == table) ≡ false → find place_cmp p (placed_in table es) ≡ None
find_in_other p table [] other = refl
find_in_other p table (e ∷ es) other =
    ap (λ b. cond b (Some (Some e.1)) (find place_cmp p (placed_in table es))) (place_in_other p table e.0 other) ∙ find_in_other p table es other

-- at a place of the table, the row that it held there
pub get_rows_held_at : (w : Wiped) (key : Key) → get (rows_held w) (w.table, key) ≡ as_edit (get w.contents.rows key)
get_rows_held_at w key =
    get-from_entries place_cmp_total (placed_in w.table (entries w.contents.rows)) (w.table, key)
    ∙ find_in_table w.table key (entries w.contents.rows)
    ∙ ap as_edit (sym (get-entries w.contents.rows key))

-- at a place of another, nothing
pub get_rows_held_other : (w : Wiped) (p : Place) → (p.0 == w.table) ≡ false → get (rows_held w) p ≡ None
get_rows_held_other w p other =
    get-from_entries place_cmp_total (placed_in w.table (entries w.contents.rows)) p ∙ find_in_other p w.table (entries w.contents.rows) other

row_or_none : (row : Option Row) → unwrap_or (as_edit row) None ≡ row
row_or_none None = refl
row_or_none (Some row) = refl

-- what an empty table gets back is what it held, and the others are left
pub back_rows_held : (old new : Rows) (w : Wiped) → HasNoRows old w.table → IsTable new w.table w.contents.rows → SameElsewhere old new w.table
    → new ≡ back old (rows_held w)
back_rows_held old new w empty held elsewhere = same_rows _ _ (λ p. at p (p.0 == w.table) refl)
  where
    here : (key : Key) → get new (w.table, key) ≡ get (back old (rows_held w)) (w.table, key)
    here key =
        held key ∙ sym (row_or_none (get w.contents.rows key))
        ∙ ap (unwrap_or (as_edit (get w.contents.rows key))) (sym (empty key))
        ∙ ap (λ e. unwrap_or e (get old (w.table, key))) (sym (get_rows_held_at w key))
        ∙ sym (get_overlay old (rows_held w) (w.table, key))

    at : (p : Place) (b : Bool) → (p.0 == w.table) ≡ b → get new p ≡ get (back old (rows_held w)) p
    at p true is =
        subst (λ (n : ℕ). get new (n, p.1) ≡ get (back old (rows_held w)) (n, p.1)) (sym (number_is p.0 w.table is)) (here p.1)
    at p false is =
        elsewhere p.0 p.1 (number_is_not p.0 w.table is) ∙ ap (λ e. unwrap_or e (get old p)) (sym (get_rows_held_other w p is)) ∙ sym (get_overlay old (rows_held w) p)
