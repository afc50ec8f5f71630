-- A column of a patched row.
use Rattle.std.specs.Prelude.{◌≡◌, ℕ, suc, ◌<◌, ◌≤◌, Bool, true, false, List, [], ◌∷◌, None, Some, length, cond, refl}
use Rattle.std.specs.List.{list_any}
use Rattle.std.proofs.Common.{zero, ap, sym, ◌∙◌, arith}
use Rattle.std.proofs.lemmas.Option.{same_Some}
use Rattle.model.specs.declared.row.Row.{Row}
use Rattle.model.specs.declared.patch.ColumnPatch.{ColumnPatch}
use Rattle.model.specs.declared.patch.ColumnPatch.TheVariants.{Keep, Null, Value}
use Rattle.model.specs.Rows.{value_at}
use Rattle.model.specs.Effect.{patch_row}
use Rattle.model.specs.Patch.{column_at, patch_value, row_given, is_kept, all_given}

pub length_patched : (ps : List ColumnPatch) (row : Row) → length (patch_row ps row) ≡ length row
length_patched [] row = refl
length_patched (p ∷ ps) [] = refl
length_patched (p ∷ ps) (v ∷ row) = ap suc (length_patched ps row)

-- one that the row has
pub patched_column : (ps : List ColumnPatch) (row : Row) (i : ℕ) (p : ColumnPatch) → i < length row → p ≡ column_at ps i
    → patch_value p (value_at row i) ≡ value_at (patch_row ps row) i
patched_column [] row i p within at = ap (λ q. patch_value q (value_at row i)) at
patched_column (q ∷ ps) [] i p within at = absurd (omega arith)
patched_column (q ∷ ps) (v ∷ row) zero p within at = ap (λ r. patch_value r v) at
patched_column (q ∷ ps) (v ∷ row) (suc i) p within at = patched_column ps row i p (omega arith) at

-- one past the row's end
pub no_column : (ps : List ColumnPatch) (row : Row) (i : ℕ) → length row ≤ i → None ≡ value_at (patch_row ps row) i
no_column [] [] i past = refl
no_column (q ∷ ps) [] i past = refl
no_column ps (v ∷ row) zero past = absurd (omega arith)
no_column [] (v ∷ row) (suc i) past = no_column [] row i (omega arith)
no_column (q ∷ ps) (v ∷ row) (suc i) past = no_column ps row i (omega arith)

-- an update of all columns has the row itself
pub whole_patch : (ps : List ColumnPatch) (old row : Row) → all_given ps ≡ Some row → length row ≡ length old → row ≡ patch_row ps old
whole_patch ps old row given same = by_kept ps old row (list_any is_kept ps) refl given same
  where
    each_column : (ps : List ColumnPatch) (old : Row) → list_any is_kept ps ≡ false → length (row_given ps) ≡ length old → row_given ps ≡ patch_row ps old
    each_column [] [] none same = refl
    each_column [] (v ∷ old) none same = cc
    each_column (p ∷ ps) [] none same = cc
    each_column (Keep ∷ ps) (v ∷ old) none same = cc
    each_column (Null ∷ ps) (v ∷ old) none same = ap (λ (rest : Row). None ∷ rest) (each_column ps old none (omega (arith, same)))
    each_column (Value new ∷ ps) (v ∷ old) none same = ap (λ (rest : Row). Some new ∷ rest) (each_column ps old none (omega (arith, same)))

    by_kept : (ps : List ColumnPatch) (old row : Row) (kept : Bool) → list_any is_kept ps ≡ kept → cond kept None (Some (row_given ps)) ≡ Some row → length row ≡ length old → row ≡ patch_row ps old
    by_kept ps old row true is given same = cc
    by_kept ps old row false is given same =
        let row_is : row_given ps ≡ row = same_Some _ _ given in
        sym row_is ∙ each_column ps old is (ap length row_is ∙ same)
