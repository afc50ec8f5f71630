-- What a footprint leaves out, and what it has first.
--     kept_is_free      a unique value that an update keeps is not among its cells
--     looked_up_meets      whoever meets the looked-up row meets the footprint
use Rattle.std.specs.Prelude.{◌≡◌, ℕ, zero, suc, ◌+◌, ◌==◌, Bool, true, false, ◌&&◌, ◌||◌, List, [], ◌∷◌, ◌++◌, Option, Some, None, if◌then◌else◌, refl, slice_get}
use Rattle.std.proofs.Common.{sym, ◌∙◌, ap, subst, inl, inr, true≢false, arith}
use Rattle.std.specs.List.{list_any}
use Rattle.std.specs.FinMap.{get}
use Rattle.std.proofs.lemmas.Bool.{cases_Bool}
use Rattle.std.proofs.lemmas.List.Folds.{list_any-append}
use Rattle.model.specs.ValidLemmas.{not_none}
use Rattle.model.specs.TakenLemmas.{number_is}
use Rattle.model.specs.declared.key.Key.{Key}
use Rattle.model.specs.declared.row.Row.{Row as Record}
use Rattle.model.specs.declared.change.Change.{Change}
use Rattle.model.specs.declared.change.Change.TheVariants.{Put, Set, Remove, Wipe}
use Rattle.model.specs.declared.patch.ColumnPatch.{ColumnPatch}
use Rattle.model.specs.declared.cell.Cell.{Cell}
use Rattle.model.specs.declared.cell.Cell.TheVariants.{Row, Uniq}
use Rattle.model.specs.Rows.{Rows, Schema, keys_at, values_in, key_of, is_key}
use Rattle.model.specs.Effect.{patch_row}
use Rattle.model.specs.Cells.{overlaps, same_key, row_cell, unique_cell}
use Rattle.model.specs.Footprint.{both_have, moved_cell, moved_cells, new_place, replaced_cells, looked_up, footprint, shares_cell}
use Rattle.model.specs.CellContents.{unique_key}
use Rattle.model.specs.OverlapLemmas.{neither}
use Rattle.model.specs.TakenBesideLemmas.{key_found}

no_first : (a b : Bool) → a ≡ false → (a && b) ≡ false
no_first a b e = ap (λ x. x && b) e

no_second : (a b : Bool) → b ≡ false → (a && b) ≡ false
no_second true b e = e
no_second false b e = refl

free_append : (cell : Cell) (cells more : List Cell) → list_any (overlaps cell) cells ≡ false
    → list_any (overlaps cell) more ≡ false
    → list_any (overlaps cell) (cells ++ more) ≡ false
free_append cell cells more p q = list_any-append (overlaps cell) cells more ∙ neither _ _ p q

module _ (table number : ℕ) (values : Key) where
  -- the values of a key of another number
  another_number : (first : ℕ) (found : Option Key) → (number == first) ≡ false
      → list_any (overlaps (Uniq table number values)) (unique_cell table first found) ≡ false
  another_number first None differs = refl
  another_number first (Some own) differs =
      neither _ _ (no_second (table == table) _ (no_first (number == first) (same_key values own) differs)) refl

  free_of_moved : (first : ℕ) (old new : Option Key) → (number ≡ first → both_have old new ≡ true)
      → list_any (overlaps (Uniq table number values)) (moved_cell table first old new) ≡ false
  free_of_moved first old new both =
      by_both (both_have old new) refl
    where
      by_both : (b : Bool) → both_have old new ≡ b
          → list_any (overlaps (Uniq table number values))
          (if b then [] else unique_cell table first old ++ unique_cell table first new) ≡ false
      by_both true is = refl
      by_both false is =
          elim (cases_Bool (number == first)) [
            | inl same ↦ absurd (true≢false (sym (both (number_is number first same)) ∙ is))
            | inr differs ↦
                free_append (Uniq table number values) (unique_cell table first old) (unique_cell table first new)
                (another_number first old differs) (another_number first new differs)
          ]

  free_of_all_moved : (old new : Record) (uniques : List (List ℕ)) (first : ℕ)
      → ((i : ℕ) (columns : List ℕ) → slice_get uniques i ≡ Some columns → number ≡ first + i → both_have (values_in columns old) (values_in columns new) ≡ true)
      → list_any (overlaps (Uniq table number values)) (moved_cells table old new first uniques) ≡ false
  free_of_all_moved old new [] first both = refl
  free_of_all_moved old new (columns ∷ uniques) first both =
      free_append (Uniq table number values) (moved_cell table first (values_in columns old) (values_in columns new))
      (moved_cells table old new (suc first) uniques)
      (free_of_moved first (values_in columns old) (values_in columns new) (λ is. both 0 columns refl (omega (arith, is))))
      (free_of_all_moved old new uniques (suc first) (λ i own at is. both (suc i) own at (omega (arith, is))))

  free_of_place : (key : Key) (new : Option Key)
      → list_any (overlaps (Uniq table number values)) (new_place table key new) ≡ false
  free_of_place key new =
      elim (is_key new key) as
      (λ b. list_any (overlaps (Uniq table number values)) (if b then [] else row_cell table new) ≡ false) [
        | true ↦ refl
        | false ↦ no_row new
      ]
    where
      no_row : (found : Option Key) → list_any (overlaps (Uniq table number values)) (row_cell table found) ≡ false
      no_row None = refl
      no_row (Some key) = refl

kept_among : (schema : Schema) (table : ℕ) (old new : Record) (number : ℕ) (columns : List ℕ) (values : Key)
    → unique_key schema table number ≡ Some columns
    → values_in columns old ≡ Some values → values_in columns new ≡ Some values
    → list_any (overlaps (Uniq table number values))
    (moved_cells table old new 1 (keys_at schema table).uniques) ≡ false
kept_among schema table old new zero columns values is had has = absurd (not_none columns is)
kept_among schema table old new (suc n) columns values is had has =
    free_of_all_moved table (suc n) values old new (keys_at schema table).uniques 1 (λ i own at same.
    let i_is : i ≡ n = omega (arith, same) in
    let own_is : Some own ≡ Some columns = sym at ∙ ap (slice_get (keys_at schema table).uniques) i_is ∙ is in
    let columns_are : columns ≡ own = cc in
    let had_own : values_in own old ≡ Some values = subst (λ (c : List ℕ). values_in c old ≡ Some values) columns_are had in
    let has_own : values_in own new ≡ Some values = subst (λ (c : List ℕ). values_in c new ≡ Some values) columns_are has in
    ap (both_have (values_in own old)) has_own ∙ key_found (values_in own old) values had_own)

pub kept_is_free : (schema : Schema) (rows : Rows) (table : ℕ) (key : Key) (patch : List ColumnPatch) (old : Record) (number : ℕ) (columns : List ℕ) (values : Key)
    → get rows (table, key) ≡ Some old → unique_key schema table number ≡ Some columns
    → values_in columns old ≡ Some values
    → values_in columns (patch_row patch old) ≡ Some values
    → list_any (overlaps (Uniq table number values)) (footprint schema rows (Set table key patch)) ≡ false
unfolding footprint
kept_is_free schema rows table key patch old number columns values stands is had has =
    ap (λ (r : Option Record). list_any (overlaps (Uniq table number values)) (replaced_cells schema table key patch r)) stands
    ∙ free_append (Uniq table number values) (new_place table key (key_of schema table (patch_row patch old)))
    (moved_cells table old (patch_row patch old) 1 (keys_at schema table).uniques)
    (free_of_place table number values key (key_of schema table (patch_row patch old)))
    (kept_among schema table old (patch_row patch old) number columns values is had has)

first_too : (a b : Bool) → (a || false) ≡ true → (a || b) ≡ true
first_too true b e = refl
first_too false b e = absurd (true≢false (sym e))

-- whoever meets the looked-up row meets the footprint
pub looked_up_meets : (schema : Schema) (rows : Rows) (c : Change) (cells : List Cell)
    → shares_cell (looked_up c) cells ≡ true
    → shares_cell (footprint schema rows c) cells ≡ true
unfolding footprint
looked_up_meets schema rows (Put table row) cells meets = absurd (true≢false (sym meets))
looked_up_meets schema rows (Set table key patch) cells meets =
    first_too (list_any (overlaps (Row table key)) cells) _ meets
looked_up_meets schema rows (Remove table key) cells meets =
    first_too (list_any (overlaps (Row table key)) cells) _ meets
looked_up_meets schema rows (Wipe tables) cells meets = absurd (true≢false (sym meets))
