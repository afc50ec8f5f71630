use Rattle.relcache.proofs.Resolving.{resolved_maps}
use Rattle.relcache.proofs.laws.relations_map_by_name.Goals as goal

pub returns : goal.returns
returns c = resolved_maps
