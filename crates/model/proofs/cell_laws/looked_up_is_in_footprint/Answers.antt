use Rattle.model.specs.FootprintLemmas.{looked_up_meets}
use Rattle.model.proofs.cell_laws.looked_up_is_in_footprint.Goals as goal

pub returns : goal.returns
returns c = looked_up_meets
