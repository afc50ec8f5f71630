-- What a log tells of a change by the inverse that comes next.
--     next_row_stood      at each place of the change's footprint it has the row that stood there then
--     next_looked_row, next_footprint      so it tells the row that was looked up, and the footprint
--     has_if_done, has_not_if_skipped      a change that was done has the next inverse, a skipped one has none
--     next_log      those behind are the log of the changes behind
use Rattle.std.specs.Prelude.{◌≡◌, ℕ, suc, ◌⊎◌, Bool, true, false, cond, List, [], ◌∷◌, ◌++◌, Option, Some, None, if◌then◌else◌, is_some, unwrap_or, map, refl}
use Rattle.std.proofs.Common.{sym, ◌∙◌, ap, subst, inl, inr, true≢false, arith}
use Rattle.std.specs.List.{Contains}
use Rattle.std.specs.FinMap as map_of
use Rattle.std.specs.FinMap.{get, insert, remove}
use Rattle.std.proofs.lemmas.List.Elements.{Contains-append_cases}
use Rattle.model.specs.declared.key.Key.{Key}
use Rattle.model.specs.declared.row.Row.{Row as Record}
use Rattle.model.specs.declared.change.Change.{Change}
use Rattle.model.specs.declared.change.Change.TheVariants.{Put, Set, Remove, Wipe}
use Rattle.model.specs.declared.patch.ColumnPatch.{ColumnPatch}
use Rattle.model.specs.declared.cell.Cell.{Cell}
use Rattle.model.specs.declared.cell.Cell.TheVariants.{Row, Uniq, Whole}
use Rattle.model.specs.Rows.{Place, is_place, Rows, Schema, keys_at, key_of, is_key, values_in}
use Rattle.model.specs.Effect.{Edits, Outcome, Done, Skip, Clashes, Unique, one_edit, patch_row, unless_taken, first_taken, row_outcome_at, row_outcome, set_outcome, remove_outcome, wipe_edits, outcome, effect, inverse, edits_of as edits_of_outcome}
use Rattle.model.specs.EditLemmas.{same_place, was_at, get_rows_under, get_edit, get_one_edit, get_remove_other}
use Rattle.model.specs.EffectLemmas.{effect_skipped}
use Rattle.model.specs.Cells.{row_cell, unique_cell, unique_cells, cells_of}
use Rattle.model.specs.Footprint.{both_have, footprint, replaced_cells, removed_cells, new_place, moved_cells, moved_cell}
use Rattle.change.specs.declared.inverse.Inverse.{Inverse}
use Rattle.change.specs.Footprint.{looked_row, footprint_at}
use Rattle.change.specs.Inverse.{edits_of, row_by_inverse}
use Rattle.change.specs.InverseLemmas.{contains_first, contains_here, contains_one}
use Rattle.change.specs.Applied.{IsDone}
use Rattle.undo.specs.LogOf.{IsLogOf, no_change, with_done, with_skipped}
use Rattle.undo.specs.Next.{next_row, has_next, rest_of}
use Rattle.undo.specs.LogLemmas.{FillsCell, at_place, at_values, fills_of}
use Rattle.change.specs.EditsLemmas.{place_in_table}

pub footprint_is : (schema : Schema) (rows : Rows) (c : Change) → footprint schema rows c ≡ footprint_at schema c (looked_row c (get rows))
unfolding footprint
footprint_is schema rows (Put table row) = refl
footprint_is schema rows (Set table key patch) = refl
footprint_is schema rows (Remove table key) = refl
footprint_is schema rows (Wipe tables) = refl

-- ---- a place where no row stands

none_under : (edit : Option (Option Record)) (row : Option Record) → row ≡ None → unwrap_or (was_at edit row) None ≡ None
none_under None row none = refl
none_under (Some edit) row none = none

row_under : (edit : Option (Option Record)) (row : Option Record) → is_some edit ≡ true → unwrap_or (was_at edit row) None ≡ row
row_under None row is = absurd (true≢false (sym is))
row_under (Some edit) row is = refl

-- what the inverse of a change that was done has at a place
row_of_done : (schema : Schema) (rows : Rows) (c : Change) (i : Inverse) → edits_of i ≡ inverse schema rows c → (p : Place)
    → row_by_inverse i p ≡ unwrap_or (was_at (get (edits_of_outcome (outcome schema rows c)) p) (get rows p)) None
row_of_done schema rows c i same p =
    ap (λ (e : Edits). unwrap_or (get e p) None) same
    ∙ ap (λ e. unwrap_or e None) (get_rows_under rows (edits_of_outcome (outcome schema rows c)) p)

-- no inverse to come has a row for a place where none stands now, before the next change that is done
pub next_has_none : (schema : Schema) (rows : Rows) (cs : List Change) (is : List Inverse) → IsLogOf schema rows cs is → (p : Place)
    → get rows p ≡ None → next_row is p ≡ None
next_has_none schema _ _ _ (no_change rows) p none = refl
next_has_none schema _ _ _ (with_done rows c cs i is done same alters log) p none =
    row_of_done schema rows c i same p ∙ none_under (get (edits_of_outcome (outcome schema rows c)) p) (get rows p) none
next_has_none schema _ _ _ (with_skipped rows c cs is skips log) p none =
    next_has_none schema (effect schema rows c) cs is log p (ap (λ (r : Rows). get r p) (effect_skipped schema rows c skips) ∙ none)

-- ---- which places are in a footprint

-- it is the place of the row's key
abbrev IsOwnPlace : Schema → ℕ → Record → Cell → Type 0
IsOwnPlace schema table row (Row other key) = (other ≡ table) × (key_of schema table row ≡ Some key)
IsOwnPlace schema table row (Uniq other number values) = Unit {0}
IsOwnPlace schema table row (Whole other) = Unit {0}

own_place : (schema : Schema) (table : ℕ) (row : Record) (cell : Cell) → FillsCell schema table row cell → IsOwnPlace schema table row cell
own_place schema table row _ (at_place key own) = (refl, own)
own_place schema table row _ (at_values i columns values at has) = tt

-- it is no place
abbrev IsNoPlace : Cell → Type 0
IsNoPlace (Row table key) = ⊥
IsNoPlace (Uniq table number values) = Unit {0}
IsNoPlace (Whole table) = Unit {0}

no_place_in_values : (table number : ℕ) (found : Option Key) (cell : Cell) → Contains (unique_cell table number found) cell → IsNoPlace cell
no_place_in_values table number None cell is = absurd (omega (arith, is.1))
no_place_in_values table number (Some values) cell is = subst IsNoPlace (contains_one (Uniq table number values) cell is) tt

no_place_in_unique : (table : ℕ) (row : Record) (number : ℕ) (uniques : List (List ℕ)) (cell : Cell)
    → Contains (unique_cells table row number uniques) cell → IsNoPlace cell
no_place_in_unique table row number [] cell is = absurd (omega (arith, is.1))
no_place_in_unique table row number (columns ∷ uniques) cell is =
    elim (Contains-append_cases (unique_cell table number (values_in columns row)) (unique_cells table row (suc number) uniques) cell is) [
      | inl here ↦ no_place_in_values table number (values_in columns row) cell here
      | inr later ↦ no_place_in_unique table row (suc number) uniques cell later
    ]

no_place_in_moved_one : (table number : ℕ) (old new : Option Key) (b : Bool) (cell : Cell)
    → Contains (if b then [] else unique_cell table number old ++ unique_cell table number new) cell → IsNoPlace cell
no_place_in_moved_one table number old new true cell is = absurd (omega (arith, is.1))
no_place_in_moved_one table number old new false cell is =
    elim (Contains-append_cases (unique_cell table number old) (unique_cell table number new) cell is) [
      | inl before ↦ no_place_in_values table number old cell before
      | inr after ↦ no_place_in_values table number new cell after
    ]

no_place_in_moved : (table : ℕ) (old new : Record) (number : ℕ) (uniques : List (List ℕ)) (cell : Cell)
    → Contains (moved_cells table old new number uniques) cell → IsNoPlace cell
no_place_in_moved table old new number [] cell is = absurd (omega (arith, is.1))
no_place_in_moved table old new number (columns ∷ uniques) cell is =
    elim (Contains-append_cases (moved_cell table number (values_in columns old) (values_in columns new)) (moved_cells table old new (suc number) uniques) cell is) [
      | inl here ↦ no_place_in_moved_one table number (values_in columns old) (values_in columns new) (both_have (values_in columns old) (values_in columns new)) cell here
      | inr later ↦ no_place_in_moved table old new (suc number) uniques cell later
    ]

no_place_in_wiped : (tables : List ℕ) (cell : Cell) → Contains (map Whole tables) cell → IsNoPlace cell
no_place_in_wiped [] cell is = absurd (omega (arith, is.1))
no_place_in_wiped (table ∷ tables) cell is =
    elim (contains_first (Whole table) (map Whole tables) cell is) [
      | inl same ↦ subst IsNoPlace same tt
      | inr later ↦ no_place_in_wiped tables cell later
    ]

-- the new row's place, which isn't the old one
new_place_in : (table : ℕ) (key : Key) (found : Option Key) (b : Bool) → is_key found key ≡ b → (other : ℕ) (values : Key)
    → Contains (if b then [] else row_cell table found) (Row other values) → (other ≡ table) × ((found ≡ Some values) × (is_key found key ≡ false))
new_place_in table key found true is other values there = absurd (omega (arith, there.1))
new_place_in table key None false is other values there = absurd (omega (arith, there.1))
new_place_in table key (Some new) false is other values there =
    let same = contains_one (Row table new) (Row other values) there in
    (sym (ap of_table same), (ap (λ (k : Key). Some k) (ap of_key same), is))
  where
    of_table : Cell → ℕ
    of_table (Row t k) = t
    of_table (Uniq t n k) = t
    of_table (Whole t) = t

    of_key : Cell → Key
    of_key (Row t k) = k
    of_key (Uniq t n k) = k
    of_key (Whole t) = []

-- ---- a row that came where none stood

row_came : (schema : Schema) (rows : Rows) (edits : Edits) (table : ℕ) (row : Record) (found : Option Key) → IsDone (row_outcome_at schema rows edits table row found)
    → (key : Key) → found ≡ Some key → get rows (table, key) ≡ None
row_came schema rows edits table row None done key is = absurd done
row_came schema rows edits table row (Some own) done key is =
    subst (λ (k : Key). get rows (table, k) ≡ None) own_is (by_row (get rows (table, own)) refl)
  where
    own_is : own ≡ key
    own_is = cc

    by_row : (there : Option Record) → get rows (table, own) ≡ there → get rows (table, own) ≡ None
    by_row None stands = stands
    by_row (Some other) stands =
        absurd (subst (λ (t : Option Record). IsDone (if is_some t then Clashes (Unique table 0)
        else unless_taken table (first_taken rows table row 1 (keys_at schema table).uniques) (insert edits (table, own) (Some row)))) stands done)

-- the edit of the place that an update looks up
old_is_edited : (schema : Schema) (rows : Rows) (p : Place) (table : ℕ) (row : Record) (found : Option Key)
    → IsDone (row_outcome_at schema rows (one_edit p None) table row found)
    → is_some (get (edits_of_outcome (row_outcome_at schema rows (one_edit p None) table row found)) p) ≡ true
old_is_edited schema rows p table row None done = absurd done
old_is_edited schema rows p table row (Some own) done = by_row (is_some (get rows (table, own))) done
  where
    both : (b : Bool) → is_some (cond b (Some (Some row)) (get (one_edit p None) p)) ≡ true
    both true = refl
    both false = ap is_some (get_one_edit p None p ∙ ap (λ b. cond b (Some None) None) (same_place p))

    by_key : (taken : Option ℕ) → IsDone (unless_taken table taken (insert (one_edit p None) (table, own) (Some row)))
        → is_some (get (edits_of_outcome (unless_taken table taken (insert (one_edit p None) (table, own) (Some row)))) p) ≡ true
    by_key None is = ap is_some (get_edit (one_edit p None) (table, own) (Some row) p) ∙ both (is_place p (table, own))
    by_key (Some number) is = absurd is

    by_row : (b : Bool) → IsDone (if b then Clashes (Unique table 0)
        else unless_taken table (first_taken rows table row 1 (keys_at schema table).uniques) (insert (one_edit p None) (table, own) (Some row)))
        → is_some (get (edits_of_outcome (if b then Clashes (Unique table 0)
        else unless_taken table (first_taken rows table row 1 (keys_at schema table).uniques) (insert (one_edit p None) (table, own) (Some row)))) p) ≡ true
    by_row true is = absurd is
    by_row false is = by_key (first_taken rows table row 1 (keys_at schema table).uniques) is

-- ---- the next inverse at the places of the footprint

-- at a place of the footprint of a change that is done no row stands, or its edits are of that place
abbrev IsEdited : Rows → Outcome → Place → Type 0
IsEdited rows o p = (get rows p ≡ None) ⊎ (is_some (get (edits_of_outcome o) p) ≡ true)

differs_by_key : (table : ℕ) (key other : Key) → is_key (Some key) other ≡ false → is_place (table, key) (table, other) ≡ false
differs_by_key table key other is = place_in_table table key other ∙ is

put_edits : (schema : Schema) (rows : Rows) (table : ℕ) (row : Record) → IsDone (outcome schema rows (Put table row)) → (other : ℕ) (key : Key)
    → Contains (cells_of schema table row) (Row other key) → IsEdited rows (outcome schema rows (Put table row)) (other, key)
put_edits schema rows table row done other key is =
    let own = own_place schema table row (Row other key) (fills_of schema table row (Row other key) is) in
    inl (subst (λ (t : ℕ). get rows (t, key) ≡ None) (sym own.0) (row_came schema rows map_of.empty table row (key_of schema table row) done key own.1))

module _ (schema : Schema) (rows : Rows) (table : ℕ) (key : Key) (patch : List ColumnPatch) where
  set_edits : (old : Record) → get rows (table, key) ≡ Some old → IsDone (row_outcome schema (remove rows (table, key)) (one_edit (table, key) None) table (patch_row patch old))
      → (other : ℕ) (values : Key) → Contains (Row table key ∷ replaced_cells schema table key patch (Some old)) (Row other values)
      → IsEdited rows (row_outcome schema (remove rows (table, key)) (one_edit (table, key) None) table (patch_row patch old)) (other, values)
  set_edits old stands done other values is =
      elim (contains_first (Row table key) (replaced_cells schema table key patch (Some old)) (Row other values) is) [
        | inl same ↦
            inr (subst (λ (c : Cell). is_some (get (edits_of_outcome (row_outcome schema (remove rows (table, key)) (one_edit (table, key) None) table (patch_row patch old))) (place_of c)) ≡ true) same
            (old_is_edited schema (remove rows (table, key)) (table, key) table (patch_row patch old) (key_of schema table (patch_row patch old)) done))
        | inr later ↦
            elim (Contains-append_cases (new_place table key (key_of schema table (patch_row patch old)))
            (moved_cells table old (patch_row patch old) 1 (keys_at schema table).uniques) (Row other values) later) [
              | inl here ↦
                  let at = new_place_in table key (key_of schema table (patch_row patch old)) (is_key (key_of schema table (patch_row patch old)) key) refl other values here in
                  let none = row_came schema (remove rows (table, key)) (one_edit (table, key) None) table (patch_row patch old) (key_of schema table (patch_row patch old)) done values at.1.0 in
                  let apart = differs_by_key table values key (ap (λ f. is_key f key) (sym at.1.0) ∙ at.1.1) in
                  inl (subst (λ (t : ℕ). get rows (t, values) ≡ None) (sym at.0) (sym (get_remove_other rows (table, key) (table, values) apart) ∙ none))
              | inr moved ↦ absurd (no_place_in_moved table old (patch_row patch old) 1 (keys_at schema table).uniques (Row other values) moved)
            ]
      ]
    where
      place_of : Cell → Place
      place_of (Row t k) = (t, k)
      place_of (Uniq t n k) = (t, k)
      place_of (Whole t) = (t, [])

remove_edits : (schema : Schema) (rows : Rows) (table : ℕ) (key : Key) (old : Record)
    → (other : ℕ) (values : Key) → Contains (Row table key ∷ removed_cells schema table (Some old)) (Row other values)
    → is_some (get (one_edit (table, key) None) (other, values)) ≡ true
remove_edits schema rows table key old other values is =
    elim (contains_first (Row table key) (removed_cells schema table (Some old)) (Row other values) is) [
      | inl same ↦
          subst (λ (c : Cell). is_some (get (one_edit (table, key) None) (place_of c)) ≡ true) same
          (ap is_some (get_one_edit (table, key) None (table, key) ∙ ap (λ b. cond b (Some None) None) (same_place (table, key))))
      | inr later ↦ absurd (no_place_in_unique table old 1 (keys_at schema table).uniques (Row other values) later)
    ]
  where
    place_of : Cell → Place
    place_of (Row t k) = (t, k)
    place_of (Uniq t n k) = (t, k)
    place_of (Whole t) = (t, [])

-- of any change that is done
done_edits : (schema : Schema) (rows : Rows) (c : Change) → IsDone (outcome schema rows c) → (other : ℕ) (values : Key)
    → Contains (footprint schema rows c) (Row other values) → IsEdited rows (outcome schema rows c) (other, values)
unfolding footprint
done_edits schema rows (Put table row) done other values is = put_edits schema rows table row done other values is
done_edits schema rows (Set table key patch) done other values is = by_row (get rows (table, key)) refl done is
  where
    by_row : (there : Option Record) → get rows (table, key) ≡ there → IsDone (set_outcome schema rows (table, key) patch there)
        → Contains (Row table key ∷ replaced_cells schema table key patch there) (Row other values)
        → IsEdited rows (set_outcome schema rows (table, key) patch there) (other, values)
    by_row None stands done its = absurd done
    by_row (Some old) stands done its = set_edits schema rows table key patch old stands done other values its
done_edits schema rows (Remove table key) done other values is = by_row (get rows (table, key)) done is
  where
    by_row : (there : Option Record) → IsDone (remove_outcome (table, key) there)
        → Contains (Row table key ∷ removed_cells schema table there) (Row other values)
        → IsEdited rows (remove_outcome (table, key) there) (other, values)
    by_row None done its = absurd done
    by_row (Some old) done its = inr (remove_edits schema rows table key old other values its)
done_edits schema rows (Wipe tables) done other values is = absurd (no_place_in_wiped tables (Row other values) is)

-- a row that comes is never skipped
row_never_skips : (schema : Schema) (rows : Rows) (edits : Edits) (table : ℕ) (row : Record) (found : Option Key) → row_outcome_at schema rows edits table row found ≡ Skip → ⊥
row_never_skips schema rows edits table row None e = cc
row_never_skips schema rows edits table row (Some key) e = by_row (is_some (get rows (table, key))) e
  where
    by_key : (taken : Option ℕ) → unless_taken table taken (insert edits (table, key) (Some row)) ≡ Skip → ⊥
    by_key None e = cc
    by_key (Some number) e = cc

    by_row : (b : Bool) → (if b then Clashes (Unique table 0)
        else unless_taken table (first_taken rows table row 1 (keys_at schema table).uniques) (insert edits (table, key) (Some row))) ≡ Skip → ⊥
    by_row true e = cc
    by_row false e = by_key (first_taken rows table row 1 (keys_at schema table).uniques) e

-- the only place of one cell
at_place_none : (table : ℕ) (key : Key) (rows : Rows) → get rows (table, key) ≡ None → (other : ℕ) (values : Key)
    → Contains (Row table key ∷ []) (Row other values) → get rows (other, values) ≡ None
at_place_none table key rows none other values is =
    subst (λ (c : Cell). get rows (place_of c) ≡ None) (contains_one (Row table key) (Row other values) is) none
  where
    place_of : Cell → Place
    place_of (Row t k) = (t, k)
    place_of (Uniq t n k) = (t, k)
    place_of (Whole t) = (t, [])

-- a change that is skipped meets no row
skipped_meets_none : (schema : Schema) (rows : Rows) (c : Change) → outcome schema rows c ≡ Skip → (other : ℕ) (values : Key)
    → Contains (footprint schema rows c) (Row other values) → get rows (other, values) ≡ None
unfolding footprint
skipped_meets_none schema rows (Put table row) skips other values is = absurd (row_never_skips schema rows map_of.empty table row (key_of schema table row) skips)
skipped_meets_none schema rows (Set table key patch) skips other values is = by_row (get rows (table, key)) refl skips is
  where
    by_row : (there : Option Record) → get rows (table, key) ≡ there → set_outcome schema rows (table, key) patch there ≡ Skip
        → Contains (Row table key ∷ replaced_cells schema table key patch there) (Row other values) → get rows (other, values) ≡ None
    by_row None stands e its = at_place_none table key rows stands other values its
    by_row (Some old) stands e its = absurd (row_never_skips schema (remove rows (table, key)) (one_edit (table, key) None) table (patch_row patch old) (key_of schema table (patch_row patch old)) e)
skipped_meets_none schema rows (Remove table key) skips other values is = by_row (get rows (table, key)) refl skips is
  where
    by_row : (there : Option Record) → get rows (table, key) ≡ there → remove_outcome (table, key) there ≡ Skip
        → Contains (Row table key ∷ removed_cells schema table there) (Row other values) → get rows (other, values) ≡ None
    by_row None stands e its = at_place_none table key rows stands other values its
    by_row (Some old) stands e its = absurd cc
skipped_meets_none schema rows (Wipe tables) skips other values is = absurd (no_place_in_wiped tables (Row other values) is)

-- at each place of the footprint the next inverse has the row of then
pub next_row_stood : (schema : Schema) (rows : Rows) (c : Change) (cs : List Change) (is : List Inverse) → IsLogOf schema rows (c ∷ cs) is
    → (table : ℕ) (key : Key) → Contains (footprint schema rows c) (Row table key) → next_row is (table, key) ≡ get rows (table, key)
next_row_stood schema _ _ _ _ (with_done rows c cs i is done same alters log) table key its =
    elim (done_edits schema rows c done table key its) [
      | inl none ↦ next_has_none schema rows (c ∷ cs) (i ∷ is) (with_done rows c cs i is done same alters log) (table, key) none ∙ sym none
      | inr edited ↦ row_of_done schema rows c i same (table, key) ∙ row_under (get (edits_of_outcome (outcome schema rows c)) (table, key)) (get rows (table, key)) edited
    ]
next_row_stood schema _ _ _ _ (with_skipped rows c cs is skips log) table key its =
    let none = skipped_meets_none schema rows c skips table key its in
    next_has_none schema rows (c ∷ cs) is (with_skipped rows c cs is skips log) (table, key) none ∙ sym none

-- so it has the row that the change looks up
pub next_looked_row : (schema : Schema) (rows : Rows) (c : Change) (cs : List Change) (is : List Inverse) → IsLogOf schema rows (c ∷ cs) is
    → looked_row c (next_row is) ≡ looked_row c (get rows)
unfolding footprint
next_looked_row schema rows (Put table row) cs is log = refl
next_looked_row schema rows (Set table key patch) cs is log =
    next_row_stood schema rows (Set table key patch) cs is log table key (contains_here (Row table key) (replaced_cells schema table key patch (get rows (table, key))))
next_looked_row schema rows (Remove table key) cs is log =
    next_row_stood schema rows (Remove table key) cs is log table key (contains_here (Row table key) (removed_cells schema table (get rows (table, key))))
next_looked_row schema rows (Wipe tables) cs is log = refl

-- and tells the footprint
pub next_footprint : (schema : Schema) (rows : Rows) (c : Change) (cs : List Change) (is : List Inverse) → IsLogOf schema rows (c ∷ cs) is
    → footprint schema rows c ≡ footprint_at schema c (looked_row c (next_row is))
next_footprint schema rows c cs is log = footprint_is schema rows c ∙ ap (footprint_at schema c) (sym (next_looked_row schema rows c cs is log))

-- a change that is done has an inverse, and one that is skipped has none
pub has_if_done : (schema : Schema) (rows : Rows) (c : Change) → IsDone (outcome schema rows c) → has_next c (looked_row c (get rows)) ≡ true
has_if_done schema rows (Put table row) done = refl
has_if_done schema rows (Set table key patch) done = by_row (get rows (table, key)) done
  where
    by_row : (there : Option Record) → IsDone (set_outcome schema rows (table, key) patch there) → is_some there ≡ true
    by_row None done = absurd done
    by_row (Some old) done = refl
has_if_done schema rows (Remove table key) done = by_row (get rows (table, key)) done
  where
    by_row : (there : Option Record) → IsDone (remove_outcome (table, key) there) → is_some there ≡ true
    by_row None done = absurd done
    by_row (Some old) done = refl
has_if_done schema rows (Wipe tables) done = refl

pub has_not_if_skipped : (schema : Schema) (rows : Rows) (c : Change) → outcome schema rows c ≡ Skip → has_next c (looked_row c (get rows)) ≡ false
has_not_if_skipped schema rows (Put table row) skips = absurd (row_never_skips schema rows map_of.empty table row (key_of schema table row) skips)
has_not_if_skipped schema rows (Set table key patch) skips = by_row (get rows (table, key)) skips
  where
    by_row : (there : Option Record) → set_outcome schema rows (table, key) patch there ≡ Skip → is_some there ≡ false
    by_row None e = refl
    by_row (Some old) e = absurd (row_never_skips schema (remove rows (table, key)) (one_edit (table, key) None) table (patch_row patch old) (key_of schema table (patch_row patch old)) e)
has_not_if_skipped schema rows (Remove table key) skips = by_row (get rows (table, key)) skips
  where
    by_row : (there : Option Record) → remove_outcome (table, key) there ≡ Skip → is_some there ≡ false
    by_row None e = refl
    by_row (Some old) e = absurd cc
has_not_if_skipped schema rows (Wipe tables) skips = absurd (never skips)
  where
    never : Done (wipe_edits rows tables) ≡ Skip → ⊥
    never e = cc

-- Whether the next inverse is the change's own is told by that inverse; those behind are the log of the changes behind.
pub next_log : (schema : Schema) (rows : Rows) (c : Change) (cs : List Change) (is : List Inverse) → IsLogOf schema rows (c ∷ cs) is
    → IsLogOf schema (effect schema rows c) cs (rest_of (has_next c (looked_row c (next_row is))) is)
next_log schema rows c cs is log =
    subst (λ (b : Bool). IsLogOf schema (effect schema rows c) cs (rest_of b is)) (ap (has_next c) (sym (next_looked_row schema rows c cs is log)))
    (rest schema rows c cs is log)
  where
    rest : (schema : Schema) (rows : Rows) (c : Change) (cs : List Change) (is : List Inverse) → IsLogOf schema rows (c ∷ cs) is
        → IsLogOf schema (effect schema rows c) cs (rest_of (has_next c (looked_row c (get rows))) is)
    rest schema _ _ _ _ (with_done rows c cs i is done same alters log) =
        subst (λ (b : Bool). IsLogOf schema (effect schema rows c) cs (rest_of b (i ∷ is))) (sym (has_if_done schema rows c done)) log
    rest schema _ _ _ _ (with_skipped rows c cs is skips log) =
        subst (λ (b : Bool). IsLogOf schema (effect schema rows c) cs (rest_of b is)) (sym (has_not_if_skipped schema rows c skips)) log
