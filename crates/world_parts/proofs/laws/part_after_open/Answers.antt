use Rattle.world_parts.specs.ToldLemmas.{opens_beside, opens_here}
use Rattle.world_parts.proofs.laws.part_after_open.Goals as goal

pub returns : goal.returns
returns c = λ table w part has xid. (opens_beside table w part has xid, opens_here table w part has xid)
