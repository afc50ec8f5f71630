use Rattle.live_tables.specs.CallLemmas.{row_is_live}
use Rattle.live_tables.proofs.laws.row_is_live.Goals as goal

pub returns : goal.returns
returns c = row_is_live
