use Rattle.std.proofs.Common.{◌≡◌, ℕ, ◌<◌, get_or}
use Rattle.indexes.specs.declared.unique.Unique.{Unique}
use Rattle.model.specs.Rows.{values_in}
use Rattle.indexes.proofs.unique.agree_in_each.Given as goal

abbrev pub invariant-loop-unique : goal.invariant-loop-unique
invariant-loop-unique l =
    (k : ℕ) (d : Unique) → k < l.unique-index → values_in (get_or l.uniques k d).columns l.row ≡ values_in (get_or l.uniques k d).columns l.other
