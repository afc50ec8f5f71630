use Rattle.live_tables.specs.CallLemmas.{skip_is_kept}
use Rattle.live_tables.proofs.laws.skip_is_kept.Goals as goal

pub returns : goal.returns
returns c = skip_is_kept
