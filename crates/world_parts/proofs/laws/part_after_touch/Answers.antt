use Rattle.world_parts.specs.ToldLemmas.{touched_here, touched_beside}
use Rattle.world_parts.proofs.laws.part_after_touch.Goals as goal

pub returns : goal.returns
returns c = λ table w part has xid o at sub. (touched_here table w part has xid o at sub, touched_beside table w part has xid o at sub)
