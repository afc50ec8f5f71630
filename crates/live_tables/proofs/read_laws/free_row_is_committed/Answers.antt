use Rattle.live_tables.specs.ReadLemmas.{free_row_is_committed}
use Rattle.live_tables.proofs.read_laws.free_row_is_committed.Goals as goal

pub returns : goal.returns
returns c = free_row_is_committed
