-- What an inverse alters is in the footprint of its change.
--     put_alters, set_alters, remove_alters, wipe_alters      of each change
use Rattle.std.specs.Prelude.{◌≡◌, ℕ, Bool, true, false, List, [], ◌∷◌, ◌++◌, map, Some, if◌then◌else◌, refl}
use Rattle.std.proofs.Common.{sym, ◌∙◌, ap, subst, inl, inr}
use Rattle.std.specs.FinMap.{get}
use Rattle.model.specs.declared.key.Key.{Key}
use Rattle.model.specs.declared.row.Row.{Row as Record}
use Rattle.model.specs.declared.cell.Cell.{Cell}
use Rattle.model.specs.declared.cell.Cell.TheVariants.{Row, Whole}
use Rattle.model.specs.declared.change.Change.TheVariants.{Put, Set, Remove, Wipe}
use Rattle.model.specs.declared.patch.ColumnPatch.{ColumnPatch}
use Rattle.model.specs.ExactLemmas.{key_cmp_exact}
use Rattle.std.proofs.lemmas.Map.Views.{tells_apart}
use Rattle.model.specs.Rows.{Rows, Schema, keys_at, key_of, is_key}
use Rattle.model.specs.Effect.{patch_row}
use Rattle.model.specs.Cells.{row_cell, unique_cells}
use Rattle.model.specs.Footprint.{footprint, moved_cells, new_place, replaced_cells, removed_cells}
use Rattle.std.specs.List.{Contains}
use Rattle.indexes.specs.Content.{KeepsCells}
use Rattle.change.specs.declared.inverse.Wiped.{Wiped}
use Rattle.change.specs.InverseLemmas.{contains_first, contains_here, contains_later, contains_one}

-- a list of one cell is in any that has it
one_kept : (cell : Cell) (cells : List Cell) → Contains cells cell → KeepsCells (cell ∷ []) cells
one_kept cell cells has other is = subst (λ (c : Cell). Contains cells c) (contains_one cell other is) has

pub put_alters : (schema : Schema) (rows : Rows) (table : ℕ) (key stands_at : Key) (row : Record) → stands_at ≡ key
    → key_of schema table row ≡ Some key → KeepsCells (Row table stands_at ∷ []) (footprint schema rows (Put table row))
unfolding footprint
put_alters schema rows table key stands_at row same own =
    one_kept (Row table stands_at) _
    (subst (λ (k : Key). Contains (row_cell table (key_of schema table row) ++ unique_cells table row 1 (keys_at schema table).uniques) (Row table k)) (sym same)
    (subst (λ found. Contains (row_cell table found ++ unique_cells table row 1 (keys_at schema table).uniques) (Row table key)) (sym own)
    (contains_here (Row table key) (unique_cells table row 1 (keys_at schema table).uniques))))

pub remove_alters : (schema : Schema) (rows : Rows) (table : ℕ) (key stood_at : Key) → stood_at ≡ key
    → KeepsCells (Row table stood_at ∷ []) (footprint schema rows (Remove table key))
unfolding footprint
remove_alters schema rows table key stood_at same =
    one_kept (Row table stood_at) (footprint schema rows (Remove table key))
    (subst (λ (k : Key). Contains (footprint schema rows (Remove table key)) (Row table k)) (sym same) (contains_here (Row table key) (removed_cells schema table (get rows (table, key)))))

new_is_there : (table : ℕ) (key new : Key) (rest : List Cell) (b : Bool) → is_key (Some new) key ≡ b
    → Contains (Row table key ∷ ((if b then [] else row_cell table (Some new)) ++ rest)) (Row table new)
new_is_there table key new rest true is =
    subst (λ (k : Key). Contains (Row table key ∷ rest) (Row table k)) (sym (tells_apart key_cmp_exact new key is)) (contains_here (Row table key) rest)
new_is_there table key new rest false is = contains_later (Row table key) (Row table new ∷ rest) (Row table new) (contains_here (Row table new) rest)

pub set_alters : (schema : Schema) (rows : Rows) (table : ℕ) (key stood_at new stands_at : Key) (patch : List ColumnPatch) (old : Record)
    → stood_at ≡ key → stands_at ≡ new → get rows (table, key) ≡ Some old → key_of schema table (patch_row patch old) ≡ Some new
    → KeepsCells (Row table stood_at ∷ Row table stands_at ∷ []) (footprint schema rows (Set table key patch))
unfolding footprint
set_alters schema rows table key stood_at new stands_at patch old same same_new there own cell is =
    elim (contains_first (Row table stood_at) (Row table stands_at ∷ []) cell is) [
      | inl first ↦
          subst (λ (c : Cell). Contains (footprint schema rows (Set table key patch)) c) (ap (Row table) (sym same) ∙ first)
          (contains_here (Row table key) (replaced_cells schema table key patch (get rows (table, key))))
      | inr second ↦
          subst (λ (c : Cell). Contains (footprint schema rows (Set table key patch)) c)
          (ap (Row table) (sym same_new) ∙ contains_one (Row table stands_at) cell second)
          (subst (λ found. Contains (Row table key ∷ replaced_cells schema table key patch found) (Row table new)) (sym there)
          (subst (λ found. Contains (Row table key ∷ (new_place table key found ++ moved_cells table old (patch_row patch old) 1 (keys_at schema table).uniques)) (Row table new)) (sym own)
          (new_is_there table key new (moved_cells table old (patch_row patch old) 1 (keys_at schema table).uniques) _ refl)))
    ]

wholes : (ws : List Wiped) → map (λ (w : Wiped). Whole w.table) ws ≡ map Whole (map (λ (w : Wiped). w.table) ws)
wholes [] = refl
wholes (w ∷ ws) = ap (λ (cells : List Cell). Whole w.table ∷ cells) (wholes ws)

pub wipe_alters : (schema : Schema) (rows : Rows) (tables : List ℕ) (ws : List Wiped) → map (λ (w : Wiped). w.table) ws ≡ tables
    → KeepsCells (map (λ (w : Wiped). Whole w.table) ws) (footprint schema rows (Wipe tables))
unfolding footprint
wipe_alters schema rows tables ws same cell is =
    subst (λ (cells : List Cell). Contains cells cell) (wholes ws ∙ ap (map Whole) same) is
