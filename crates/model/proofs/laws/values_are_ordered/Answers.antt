use Rattle.model.specs.Value.{value_cmp_total}
use Rattle.model.specs.ExactLemmas.{value_cmp_exact}
use Rattle.model.proofs.Orders.{exact_order}
use Rattle.model.proofs.laws.values_are_ordered.Goals as goal

pub returns : goal.returns
returns c = exact_order value_cmp_total value_cmp_exact
