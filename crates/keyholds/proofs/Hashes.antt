-- Cells whose hashes differ.
use Rattle.std.specs.Prelude.{◌≡◌, ℕ, ◌==◌, Bool, true, false, refl}
use Rattle.std.proofs.Common.{sym, ◌∙◌, ap}
use Rattle.std.specs.Ordering.{eq_by_cmp}
use Rattle.std.proofs.lemmas.Map.Views.{tells_apart, exact_unsigned_eq}
use Rattle.model.specs.declared.cell.Cell.{Cell}
use Rattle.model.specs.CellOrder.{cell_cmp, cell_cmp_exact}
use Rattle.model.specs.Hashing.{hash_cell}

-- Cells whose hashes differ do, so that to compare the hashes answers.
pub hashes_apart : (hash : ℕ) (sought : Cell) → hash ≡ hash_cell sought → (other : ℕ) (cell : Cell) → other ≡ hash_cell cell → (hash ≡ other → ⊥) → (hash == other) ≡ eq_by_cmp cell_cmp sought cell
hashes_apart hash sought is other cell its differ = by (hash == other) (eq_by_cmp cell_cmp sought cell) refl refl
  where
    by : (a b : Bool) → (hash == other) ≡ a → eq_by_cmp cell_cmp sought cell ≡ b → a ≡ b
    by true b e f = absurd (differ (exact_unsigned_eq hash other e))
    by false true e f = absurd (differ (is ∙ ap hash_cell (tells_apart cell_cmp_exact sought cell f) ∙ sym its))
    by false false e f = refl
