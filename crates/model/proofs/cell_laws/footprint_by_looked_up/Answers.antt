use Rattle.model.specs.AlikeLemmas.{footprint_by_looked_up}
use Rattle.model.proofs.cell_laws.footprint_by_looked_up.Goals as goal

pub returns : goal.returns
returns c = footprint_by_looked_up
