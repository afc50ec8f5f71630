use Rattle.world_parts.specs.ByTableLemmas.{serial_at}
use Rattle.world_parts.proofs.laws.serial_by_table.Goals as goal

pub returns : goal.returns
returns c = serial_at
