use Rattle.model.specs.SurvivorLemmas.{rollback_cuts}
use Rattle.model.proofs.cell_laws.rollback_cuts.Goals as goal

pub returns : goal.returns
returns c = rollback_cuts
