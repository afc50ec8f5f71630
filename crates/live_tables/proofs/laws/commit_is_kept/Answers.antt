use Rattle.live_tables.specs.CallLemmas.{commit_is_kept}
use Rattle.live_tables.proofs.laws.commit_is_kept.Goals as goal

pub returns : goal.returns
returns c = commit_is_kept
