use Rattle.world_parts.specs.ToldLemmas.{aborts_here, aborts_beside}
use Rattle.world_parts.proofs.laws.part_after_abort.Goals as goal

pub returns : goal.returns
returns c = λ table w part has xid. (aborts_here table w part has xid, aborts_beside table w part has xid)
