-- Orders that tell their elements apart.
use Rattle.std.specs.Prelude.{◌≡◌}
use Rattle.std.proofs.Common.{subst}
use Rattle.std.specs.Cmp.{IsTotalOrder, tied_itself}
use Rattle.std.specs.FinMap.{IsAntisymmetric}
use Rattle.std.specs.declared.cmp.Ordering.{Ordering}
use Rattle.std.specs.declared.cmp.Ordering.TheVariants.{Equal}
use Rattle.model.specs.Statements.{IsExactOrder}

-- what is equal ties, since each ties with itself
pub exact_order : {K : Type 0} {R : K → K → Ordering} → IsTotalOrder R → IsAntisymmetric R → IsExactOrder R
exact_order {K} {R} o same = (o, λ x y. (same x y, λ is. subst (λ (z : K). R x z ≡ Equal) is (tied_itself o x)))
