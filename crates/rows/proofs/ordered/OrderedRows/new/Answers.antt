use Rattle.std.specs.Prelude.{ℕ}
use Rattle.std.specs.FinMap.{get-empty}
use Rattle.model.specs.Key.{key_cmp}
use Rattle.rows.proofs.ordered.OrderedRows.new.Goals as goal

pub invariant_of-result : goal.invariant_of-result
invariant_of-result c = rw (c.new.ensures.empty, c.new-2.ensures.empty) (record {
  named = λ key number e. absurd (let n = get-empty {X = ℕ} key_cmp key in cc);
  names = λ key number e. absurd cc;
})
