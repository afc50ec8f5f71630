use Rattle.model.specs.OverlapLemmas.{overlaps_either_way}
use Rattle.model.proofs.cell_laws.overlaps_either_way.Goals as goal

pub returns : goal.returns
returns c = overlaps_either_way
