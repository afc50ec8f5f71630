use Rattle.world_parts.specs.ToldLemmas.{back_told, back_rested, back_beside}
use Rattle.world_parts.proofs.laws.part_after_rollback.Goals as goal

pub returns : goal.returns
returns c = λ table w part has xid o at sub. (
  λ p mark here. back_told table w part has xid o p at here sub mark,
  λ nothing. (back_rested table w part has xid o at sub nothing, back_beside table w part has xid o at sub nothing),
)
