use Rattle.live_tables.specs.CallLemmas.{abort_is_kept}
use Rattle.live_tables.proofs.laws.abort_is_kept.Goals as goal

pub returns : goal.returns
returns c = abort_is_kept
