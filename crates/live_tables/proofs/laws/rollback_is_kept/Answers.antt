use Rattle.live_tables.specs.CallLemmas.{rollback_is_kept}
use Rattle.live_tables.proofs.laws.rollback_is_kept.Goals as goal

pub returns : goal.returns
returns c = rollback_is_kept
