use Rattle.model.specs.SerialLemmas.{changes_commute}
use Rattle.model.proofs.cell_laws.changes_commute.Goals as goal

pub returns : goal.returns
returns c = changes_commute
