use Rattle.model.specs.Key.{key_cmp_total}
use Rattle.model.specs.ExactLemmas.{key_cmp_exact}
use Rattle.model.proofs.Orders.{exact_order}
use Rattle.model.proofs.laws.keys_are_ordered.Goals as goal

pub returns : goal.returns
returns c = exact_order key_cmp_total key_cmp_exact
