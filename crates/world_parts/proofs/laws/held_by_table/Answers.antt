use Rattle.world_parts.specs.HeldLemmas.{shares_at}
use Rattle.world_parts.proofs.laws.held_by_table.Goals as goal

pub returns : goal.returns
returns c = shares_at
