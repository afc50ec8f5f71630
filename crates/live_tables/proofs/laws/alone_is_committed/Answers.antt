use Rattle.live_tables.specs.CallLemmas.{alone_is_committed}
use Rattle.live_tables.proofs.laws.alone_is_committed.Goals as goal

pub returns : goal.returns
returns c = alone_is_committed
