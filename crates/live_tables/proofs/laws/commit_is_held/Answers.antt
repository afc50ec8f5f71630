use Rattle.live_tables.specs.HoldsLemmas.{commit_is_held}
use Rattle.live_tables.proofs.laws.commit_is_held.Goals as goal

pub returns : goal.returns
returns c = commit_is_held
