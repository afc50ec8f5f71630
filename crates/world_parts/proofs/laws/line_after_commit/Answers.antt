use Rattle.world_parts.specs.LineLemmas.{line_here, line_beside}
use Rattle.world_parts.proofs.laws.line_after_commit.Goals as goal

pub returns : goal.returns
returns c = λ schema table w part has line xid o at info. (
  line_here schema table w part has line xid o at info,
  line_beside schema table w part has line xid o at info,
)
