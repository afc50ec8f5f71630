use Rattle.live_tables.specs.CallLemmas.{refusal_is_kept}
use Rattle.live_tables.proofs.laws.refusal_is_kept.Goals as goal

pub returns : goal.returns
returns c = refusal_is_kept
