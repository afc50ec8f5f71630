use Rattle.live_tables.specs.CallLemmas.{touch_is_kept}
use Rattle.live_tables.proofs.laws.touch_is_kept.Goals as goal

pub returns : goal.returns
returns c = touch_is_kept
