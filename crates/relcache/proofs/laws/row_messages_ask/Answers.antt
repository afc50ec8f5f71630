use Rattle.relcache.proofs.Asked.{planned_asks}
use Rattle.relcache.proofs.laws.row_messages_ask.Goals as goal

pub returns : goal.returns
returns c = planned_asks
