-- Whether an update keeps a column, from one on.
use Rattle.std.specs.Prelude.{◌≡◌, ℕ, zero, suc, ◌<◌, ◌||◌, List, [], ◌∷◌, drop, length, refl}
use Rattle.std.specs.List.{list_any}
use Rattle.std.proofs.Common.{arith}
use Rattle.model.specs.declared.patch.ColumnPatch.{ColumnPatch}
use Rattle.model.specs.Patch.{column_at, is_kept}

pub kept_from : (patch : List ColumnPatch) (n : ℕ) → n < length patch → list_any is_kept (drop n patch) ≡ (is_kept (column_at patch n) || list_any is_kept (drop (suc n) patch))
kept_from [] n within = absurd (omega arith)
kept_from (column ∷ patch) zero within = refl
kept_from (column ∷ patch) (suc n) within = kept_from patch n (omega arith)
