use Rattle.live_tables.specs.CallLemmas.{done_is_kept}
use Rattle.live_tables.proofs.laws.done_is_kept.Goals as goal

pub returns : goal.returns
returns c = done_is_kept
