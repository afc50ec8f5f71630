-- Which tables a change names.
--     several_wipe      a change that names no table alone is a truncate
--     wipes_none      a truncate is nothing in a table that it doesn't name
use Rattle.std.specs.Prelude.{◌≡◌, ℕ, false, [], ◌∷◌, refl}
use Rattle.std.proofs.Common.{sym, ◌∙◌, ap}
use Rattle.model.specs.declared.change.Change.{Change}
use Rattle.model.specs.declared.change.Change.TheVariants.{Put, Set, Remove, Wipe}
use Rattle.model.specs.TakenLemmas.{same_number}
use Rattle.world_parts.specs.ByTable.{only_if, change_at, IsIn}
use Rattle.table_locks.specs.Truncating.{IsTruncate, wipes_table}

pub several_wipe : (c : Change) → ((table : ℕ) → ¬ IsIn table c) → IsTruncate c
several_wipe (Put at row) none = absurd (none at (ap (λ b. only_if b (Put at row)) (same_number at)))
several_wipe (Set at key patch) none = absurd (none at (ap (λ b. only_if b (Set at key patch)) (same_number at)))
several_wipe (Remove at key) none = absurd (none at (ap (λ b. only_if b (Remove at key)) (same_number at)))
several_wipe (Wipe tables) none = (tables, refl)

pub wipes_none : (c : Change) → IsTruncate c → (table : ℕ) → wipes_table c table ≡ false → change_at table c ≡ []
wipes_none c (tables, is) table none =
    ap (change_at table) is ∙ ap (λ b. only_if b (Wipe (table ∷ []))) (sym (ap (λ d. wipes_table d table) is) ∙ none)
