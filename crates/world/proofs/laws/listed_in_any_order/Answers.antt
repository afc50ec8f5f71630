use Rattle.world.specs.CallLemmas.{listed_in_any_order}
use Rattle.world.proofs.laws.listed_in_any_order.Goals as goal

pub returns : goal.returns
returns c = listed_in_any_order
