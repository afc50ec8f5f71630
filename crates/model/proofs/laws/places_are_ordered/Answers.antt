use Rattle.model.specs.Rows.{place_cmp_total}
use Rattle.model.specs.ExactLemmas.{place_cmp_exact}
use Rattle.model.proofs.Orders.{exact_order}
use Rattle.model.proofs.laws.places_are_ordered.Goals as goal

pub returns : goal.returns
returns c = exact_order place_cmp_total place_cmp_exact
