-- What is known of a table's rows, before the committed ones.
--     none_known      nothing is known
--     known_after      what the later entries keep is known: the rows after the others
use Rattle.std.proofs.Common.{◌≡◌, ℕ, List, Option, Some, None, refl, sym, ap, ◌∙◌}
use Rattle.std.specs.Prelude.{unwrap_or}
use Rattle.std.specs.BTreeMap as tree
use Rattle.std.specs.BTreeMap.{BTreeMap}
use Rattle.std.specs.FinMap.{get}
use Rattle.std.specs.Map.{lookup}
use Rattle.std.specs.Ordering.{eq_by_cmp}
use Rattle.model.specs.declared.key.Key.{Key}
use Rattle.model.specs.declared.row.Row.{Row}
use Rattle.model.specs.Key.{key_cmp}
use Rattle.model.specs.Rows.{Rows}
use Rattle.model.specs.Effect.{Edits, all_back}
use Rattle.model.specs.EditLemmas.{get_overlay}
use Rattle.change.specs.Edits.{or_else, laid_together}
use Rattle.change.specs.EditsLemmas.{back_together}
use Rattle.change.specs.Laid.{known_at, IsLaidUnder}
use Rattle.live_tables.specs.Merged.{or_row}

none_at : (known : BTreeMap Key (Option Row)) → tree.IsEmpty known → (key : Key) → known_at known key ≡ None
none_at known none key = ap (λ (es : List (Key × Option Row)). lookup (eq_by_cmp key_cmp key) es) none

pub none_known : (known : BTreeMap Key (Option Row)) → tree.IsEmpty known → (key : Key) (row : Option Row) → or_row (known_at known key) row ≡ row
none_known known none key row = ap (λ o. or_row o row) (none_at known none key)

-- edits, put back together, are known before the rows
pub known_after : (known new : BTreeMap Key (Option Row)) → tree.IsEmpty known → (table : ℕ) (es : List Edits) → IsLaidUnder known table (laid_together es) new
    → (rows : Rows) (key : Key) → or_row (known_at new key) (get rows (table, key)) ≡ get (all_back rows es) (table, key)
known_after known new none table es laid rows key =
    ap (λ o. or_row o (get rows (table, key))) (laid key ∙ ap (λ o. or_else o (get (laid_together es) (table, key))) (none_at known none key))
    ∙ either (get (laid_together es) (table, key))
    ∙ sym (get_overlay rows (laid_together es) (table, key))
    ∙ ap (λ (r : Rows). get r (table, key)) (back_together rows es)
  where
    either : (o : Option (Option Row)) → or_row o (get rows (table, key)) ≡ unwrap_or o (get rows (table, key))
    either None = refl
    either (Some row) = refl
