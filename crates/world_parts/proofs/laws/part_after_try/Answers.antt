use Rattle.world_parts.specs.ToldLemmas.{tried_here, tried_elsewhere}
use Rattle.world_parts.proofs.laws.part_after_try.Goals as goal

pub returns : goal.returns
returns c = λ table w part has xid o at sub c answer. (
  λ p cut here is. tried_here table w part has xid o p at here sub c cut answer is,
  tried_elsewhere table w part has xid o at sub c answer,
)
