-- The laws of edits, place by place.
--     get_insert_same, ..      what stands at a place after an insert or a remove, where two places are the same and where they differ
--     get_overlay, get_rows_under      what stands at a place after edits, and what the edits had found there
--     restored      what stood, put back, gives the rows before the edits
--     overlay_empty, overlay_one, ..      edits of one place or two, as inserts and removes
--     overlay_apart      edits that share no place may come in either order
use Rattle.std.specs.Prelude.{◌≡◌, Bool, true, false, cond, List, [], ◌∷◌, Option, Some, None, map, unwrap_or, refl, ◌⊎◌}
use Rattle.std.proofs.Common.{sym, ◌∙◌, ap, inl, inr}
use Rattle.std.specs.Cmp.{eq_by_cmp_equiv}
use Rattle.std.specs.FinMap as map_of
use Rattle.std.specs.FinMap.{get, insert, remove, entries, find, get-entries, get-insert, get-remove, get-from_entries, get-empty, same_map}
use Rattle.std.proofs.lemmas.Map.Views.{tells_apart}
use Rattle.model.specs.declared.row.Row.{Row}
use Rattle.model.specs.Rows.{Place, Rows, place_cmp, place_cmp_total, is_place}
use Rattle.model.specs.ExactLemmas.{place_cmp_exact}
use Rattle.model.specs.Effect.{Edits, AreApart, put_at, put_all, overlay, rows_under, one_edit, back}

-- ---- places that are the same, and places that differ

pub same_place : (p : Place) → is_place p p ≡ true
same_place = (eq_by_cmp_equiv place_cmp_total).refl

pub place_is : (p q : Place) → is_place p q ≡ true → p ≡ q
place_is = tells_apart place_cmp_exact

pub other_place : (p q : Place) → is_place p q ≡ false → is_place q p ≡ false
other_place p q e = (eq_by_cmp_equiv place_cmp_total).symm q p ∙ e

pub place_cases : (p q : Place) → (p ≡ q) ⊎ (is_place p q ≡ false)
place_cases p q =
    elim (is_place p q) as (λ b. is_place p q ≡ b → (p ≡ q) ⊎ (is_place p q ≡ false)) [
      | true ↦ λ e. inl (place_is p q e)
      | false ↦ λ e. inr e
    ] refl

-- two maps of rows that answer alike are one
pub same_rows : (rows others : Rows) → ((p : Place) → get rows p ≡ get others p) → rows ≡ others
same_rows = same_map place_cmp_total place_cmp_exact

module _ (rows : Rows) (q : Place) where
  pub get_insert : (row : Row) (p : Place) → get (insert rows q row) p ≡ cond (is_place p q) (Some row) (get rows p)
  get_insert row p = get-insert place_cmp_total rows q row p

  pub get_insert_same : (row : Row) → get (insert rows q row) q ≡ Some row
  get_insert_same row = get_insert row q ∙ ap (λ b. cond b (Some row) (get rows q)) (same_place q)

  pub get_insert_other : (row : Row) (p : Place) → is_place p q ≡ false → get (insert rows q row) p ≡ get rows p
  get_insert_other row p e = get_insert row p ∙ ap (λ b. cond b (Some row) (get rows p)) e

  pub get_remove : (p : Place) → get (remove rows q) p ≡ cond (is_place p q) None (get rows p)
  get_remove p = get-remove place_cmp_total rows q p

  pub get_remove_same : get (remove rows q) q ≡ None
  get_remove_same = get_remove q ∙ ap (λ b. cond b None (get rows q)) (same_place q)

  pub get_remove_other : (p : Place) → is_place p q ≡ false → get (remove rows q) p ≡ get rows p
  get_remove_other p e = get_remove p ∙ ap (λ b. cond b None (get rows p)) e

-- ---- after edits

pub get_put_at : (rows : Rows) (q : Place) (row : Option Row) (p : Place) → get (put_at rows q row) p ≡ cond (is_place p q) row (get rows p)
get_put_at rows q None p = get_remove rows q p
get_put_at rows q (Some row) p = get_insert rows q row p

-- what is made of either is made of the one that is chosen
pub cond_inside : {X Y : Type 0} (f : X → Y) (b : Bool) (x y : X) → cond b (f x) (f y) ≡ f (cond b x y)
cond_inside f true x y = refl
cond_inside f false x y = refl

get_put_all : (rows : Rows) (p : Place) (es : List (Place × Option Row)) → get (put_all es rows) p ≡ unwrap_or (find place_cmp p es) (get rows p)
get_put_all rows p [] = refl
get_put_all rows p (e ∷ es) =
    get_put_at (put_all es rows) e.0 e.1 p
    ∙ ap (cond (is_place p e.0) e.1) (get_put_all rows p es)
    ∙ cond_inside (λ edit. unwrap_or edit (get rows p)) (is_place p e.0) (Some e.1) (find place_cmp p es)

-- the edit at the place, or else the row
pub get_overlay : (rows : Rows) (edits : Edits) (p : Place) → get (overlay rows edits) p ≡ unwrap_or (get edits p) (get rows p)
get_overlay rows edits p = get_put_all rows p (entries edits) ∙ ap (λ e. unwrap_or e (get rows p)) (sym (get-entries edits p))

-- what stood at a place, where there is an edit
abbrev pub was_at : Option (Option Row) → Option Row → Option (Option Row)
was_at None row = None
was_at (Some edit) row = Some row

was_first : (rows : Rows) (p q : Place) (edit : Option Row) (rest : Option (Option Row)) (b : Bool) → is_place p q ≡ b
    → cond b (Some (get rows q)) (was_at rest (get rows p)) ≡ was_at (cond b (Some edit) rest) (get rows p)
was_first rows p q edit rest true e = ap (λ (at : Place). Some (get rows at)) (sym (place_is p q e))
was_first rows p q edit rest false e = refl

find_rows_under : (rows : Rows) (p : Place) (es : List (Place × Option Row))
    → find place_cmp p (map (λ (e : Place × Option Row). (e.0, get rows e.0)) es) ≡ was_at (find place_cmp p es) (get rows p)
find_rows_under rows p [] = refl
find_rows_under rows p (e ∷ es) =
    ap (cond (is_place p e.0) (Some (get rows e.0))) (find_rows_under rows p es)
    ∙ was_first rows p e.0 e.1 (find place_cmp p es) (is_place p e.0) refl

pub get_rows_under : (rows : Rows) (edits : Edits) (p : Place) → get (rows_under rows edits) p ≡ was_at (get edits p) (get rows p)
get_rows_under rows edits p =
    get-from_entries place_cmp_total (map (λ (e : Place × Option Row). (e.0, get rows e.0)) (entries edits)) p
    ∙ find_rows_under rows p (entries edits)
    ∙ ap (λ e. was_at e (get rows p)) (sym (get-entries edits p))

-- ---- what stood, put back

put_and_taken_back : (edit : Option (Option Row)) (row : Option Row) → unwrap_or (was_at edit row) (unwrap_or edit row) ≡ row
put_and_taken_back None row = refl
put_and_taken_back (Some edit) row = refl

pub restored : (rows : Rows) (edits : Edits) → back (overlay rows edits) (rows_under rows edits) ≡ rows
restored rows edits = same_rows _ _ (λ p.
    get_overlay (overlay rows edits) (rows_under rows edits) p
    ∙ ap (λ e. unwrap_or e (get (overlay rows edits) p)) (get_rows_under rows edits p)
    ∙ ap (unwrap_or (was_at (get edits p) (get rows p))) (get_overlay rows edits p)
    ∙ put_and_taken_back (get edits p) (get rows p))

either_order : (row : Option Row) (edit other : Option (Option Row)) → (edit ≡ None) ⊎ (other ≡ None)
    → unwrap_or other (unwrap_or edit row) ≡ unwrap_or edit (unwrap_or other row)
either_order row None other apart = refl
either_order row (Some edit) None apart = refl
either_order row (Some edit) (Some other) (inl e) = cc
either_order row (Some edit) (Some other) (inr e) = cc

pub overlay_apart : (rows : Rows) (edits others : Edits) → AreApart edits others
    → overlay (overlay rows edits) others ≡ overlay (overlay rows others) edits
overlay_apart rows edits others apart = same_rows _ _ (λ p.
    get_overlay (overlay rows edits) others p
    ∙ ap (unwrap_or (get others p)) (get_overlay rows edits p)
    ∙ either_order (get rows p) (get edits p) (get others p) (apart p)
    ∙ sym (ap (unwrap_or (get edits p)) (get_overlay rows others p))
    ∙ sym (get_overlay (overlay rows others) edits p))

-- ---- edits of no place, of one and of two

pub overlay_empty : (rows : Rows) → overlay rows map_of.empty ≡ rows
overlay_empty rows = same_rows _ _ (λ p. get_overlay rows map_of.empty p ∙ ap (λ e. unwrap_or e (get rows p)) (get-empty place_cmp p))

-- what is edited at a place, after one more edit
pub get_edit : (edits : Edits) (q : Place) (row : Option Row) (p : Place) → get (insert edits q row) p ≡ cond (is_place p q) (Some row) (get edits p)
get_edit edits q row p = get-insert place_cmp_total edits q row p

pub get_one_edit : (q : Place) (row : Option Row) (p : Place) → get (one_edit q row) p ≡ cond (is_place p q) (Some row) None
get_one_edit q row p = get_edit map_of.empty q row p ∙ ap (cond (is_place p q) (Some row)) (get-empty place_cmp p)

-- one more edit
pub overlay_more : (rows : Rows) (edits : Edits) (q : Place) (row : Option Row) → overlay rows (insert edits q row) ≡ put_at (overlay rows edits) q row
overlay_more rows edits q row = same_rows _ _ (λ p.
    get_overlay rows (insert edits q row) p
    ∙ ap (λ e. unwrap_or e (get rows p)) (get_edit edits q row p)
    ∙ sym (cond_inside (λ edit. unwrap_or edit (get rows p)) (is_place p q) (Some row) (get edits p))
    ∙ ap (cond (is_place p q) row) (sym (get_overlay rows edits p))
    ∙ sym (get_put_at (overlay rows edits) q row p))

pub overlay_one : (rows : Rows) (q : Place) (row : Option Row) → overlay rows (one_edit q row) ≡ put_at rows q row
overlay_one rows q row = overlay_more rows map_of.empty q row ∙ ap (λ r. put_at r q row) (overlay_empty rows)

-- two edits, the later one first seen
pub overlay_two : (rows : Rows) (q later : Place) (row new : Option Row) → overlay rows (insert (one_edit q row) later new) ≡ put_at (put_at rows q row) later new
overlay_two rows q later row new = overlay_more rows (one_edit q row) later new ∙ ap (λ r. put_at r later new) (overlay_one rows q row)

-- ---- what stood at no place, at one and at two

pub same_edits : (edits others : Edits) → ((p : Place) → get edits p ≡ get others p) → edits ≡ others
same_edits = same_map place_cmp_total place_cmp_exact

pub rows_under_none : (rows : Rows) → rows_under rows map_of.empty ≡ map_of.empty
rows_under_none rows = same_edits _ _ (λ p.
    get_rows_under rows map_of.empty p ∙ ap (λ e. was_at e (get rows p)) (get-empty place_cmp p) ∙ sym (get-empty place_cmp p))

-- with one more edit, also what stood at its place
pub rows_under_more : (rows : Rows) (edits : Edits) (q : Place) (row : Option Row) → rows_under rows (insert edits q row) ≡ insert (rows_under rows edits) q (get rows q)
rows_under_more rows edits q row = same_edits _ _ (λ p.
    get_rows_under rows (insert edits q row) p
    ∙ ap (λ e. was_at e (get rows p)) (get_edit edits q row p)
    ∙ sym (was_first rows p q row (get edits p) (is_place p q) refl)
    ∙ ap (cond (is_place p q) (Some (get rows q))) (sym (get_rows_under rows edits p))
    ∙ sym (get_edit (rows_under rows edits) q (get rows q) p))

pub rows_under_one : (rows : Rows) (q : Place) (row : Option Row) → rows_under rows (one_edit q row) ≡ one_edit q (get rows q)
rows_under_one rows q row = rows_under_more rows map_of.empty q row ∙ ap (λ edits. insert edits q (get rows q)) (rows_under_none rows)

pub rows_under_two : (rows : Rows) (q later : Place) (row new : Option Row)
    → rows_under rows (insert (one_edit q row) later new) ≡ insert (one_edit q (get rows q)) later (get rows later)
rows_under_two rows q later row new = rows_under_more rows (one_edit q row) later new ∙ ap (λ edits. insert edits later (get rows later)) (rows_under_one rows q row)
