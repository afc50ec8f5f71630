use Rattle.live_tables.specs.ReadLemmas.{wiped_row_is_committed}
use Rattle.live_tables.proofs.read_laws.wiped_row_is_committed.Goals as goal

pub returns : goal.returns
returns c = wiped_row_is_committed
