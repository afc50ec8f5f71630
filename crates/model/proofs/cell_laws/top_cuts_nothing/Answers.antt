use Rattle.model.specs.SurvivorLemmas.{top_cuts_nothing}
use Rattle.model.proofs.cell_laws.top_cuts_nothing.Goals as goal

pub returns : goal.returns
returns c = top_cuts_nothing
