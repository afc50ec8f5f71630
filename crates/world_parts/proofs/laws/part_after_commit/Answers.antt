use Rattle.world_parts.specs.ToldLemmas.{ends_here, ends_beside}
use Rattle.world_parts.proofs.laws.part_after_commit.Goals as goal

pub returns : goal.returns
returns c = λ schema table w part has xid o at info. (
  λ p here. ends_here table w part has xid o p at here schema info,
  ends_beside table w part has xid o at schema info,
)
