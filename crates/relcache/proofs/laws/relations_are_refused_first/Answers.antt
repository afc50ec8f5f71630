use Rattle.relcache.proofs.Resolving.{resolved_first}
use Rattle.relcache.proofs.laws.relations_are_refused_first.Goals as goal

pub returns : goal.returns
returns c = resolved_first
