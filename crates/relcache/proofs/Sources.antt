-- The sources of the columns by a loop: those so far, before those of the columns that are left.
use Rattle.std.proofs.Common.{◌≡◌, ℕ, zero, suc, ◌+◌, ◌<◌, List, [], ◌∷◌, ◌++◌, length, drop, get_or, Option, None, sym, ap, ◌∙◌, append_assoc, add-one, arith}
use Rattle.std.proofs.Math.Seq.{drop-nil}
use Rattle.std.specs.List.{slice_get}
use Rattle.std.specs.Option.{option_flatten}
use Rattle.model.specs.declared.table_def.Column.{Column}
use Rattle.model.specs.declared.value.Value.{Value}
use Rattle.relcache.specs.declared.published.PublishedColumn.{PublishedColumn}
use Rattle.relcache.specs.declared.mapping.ColumnSource.{ColumnSource}
use Rattle.relcache.specs.Mapping.{source_of, sources_of}

module _ (sent : List PublishedColumn) where
  -- the source of the i-th column comes next
  opened : (columns : List Column) (defaults : List (Option Value)) (i : ℕ) (x : Column) → i < length columns → x ≡ get_or columns i x → sources_of sent (drop i columns) (drop i defaults) ≡ source_of sent x (option_flatten (slice_get defaults i)) ∷ sources_of sent (drop (suc i) columns) (drop (suc i) defaults)
  opened [] defaults i x within at = absurd (omega arith)
  opened (c ∷ cs) [] zero x within at = ap (λ y. source_of sent y None ∷ sources_of sent cs []) (sym at)
  opened (c ∷ cs) (d ∷ ds) zero x within at = ap (λ y. source_of sent y d ∷ sources_of sent cs ds) (sym at)
  opened (c ∷ cs) [] (suc i) x within at =
      let rest = opened cs [] i x (omega arith) at in
      rw drop-nil at rest
  opened (c ∷ cs) (d ∷ ds) (suc i) x within at = opened cs ds i x (omega arith) at

  pub sources_of-next : (columns : List Column) (defaults : List (Option Value)) (i : ℕ) (x : Column) (before all : List ColumnSource) → i < length columns → x ≡ get_or columns i x → all ≡ before ++ sources_of sent (drop i columns) (drop i defaults) → all ≡ (before ++ source_of sent x (option_flatten (slice_get defaults i)) ∷ []) ++ sources_of sent (drop (i + 1) columns) (drop (i + 1) defaults)
  sources_of-next columns defaults i x before all within at so_far =
      rw add-one
      (so_far
      ∙ ap (λ rest. before ++ rest) (opened columns defaults i x within at)
      ∙ sym (append_assoc before (source_of sent x (option_flatten (slice_get defaults i)) ∷ []) (sources_of sent (drop (suc i) columns) (drop (suc i) defaults))))
