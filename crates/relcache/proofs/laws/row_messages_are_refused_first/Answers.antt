use Rattle.relcache.proofs.Asked.{planned_first}
use Rattle.relcache.proofs.laws.row_messages_are_refused_first.Goals as goal

pub returns : goal.returns
returns c = planned_first
