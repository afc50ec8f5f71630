use Rattle.model.specs.AlikeLemmas.{alike_after}
use Rattle.model.proofs.cell_laws.same_stays.Goals as goal

pub returns : goal.returns
returns c = alike_after
