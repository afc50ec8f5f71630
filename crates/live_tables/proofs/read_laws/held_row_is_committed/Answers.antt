use Rattle.live_tables.specs.ReadLemmas.{held_row_is_committed}
use Rattle.live_tables.proofs.read_laws.held_row_is_committed.Goals as goal

pub returns : goal.returns
returns c = held_row_is_committed
