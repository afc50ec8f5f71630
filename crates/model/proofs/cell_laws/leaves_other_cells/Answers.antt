use Rattle.model.specs.FrameLemmas.{leaves_free}
use Rattle.model.proofs.cell_laws.leaves_other_cells.Goals as goal

pub returns : goal.returns
returns c = leaves_free
