use Rattle.live_tables.specs.CellLemmas.{cells_are_known}
use Rattle.live_tables.proofs.read_laws.cells_are_known.Goals as goal

pub returns : goal.returns
returns c = cells_are_known
