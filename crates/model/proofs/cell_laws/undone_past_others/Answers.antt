use Rattle.model.specs.SerialLemmas.{undone_past}
use Rattle.model.proofs.cell_laws.undone_past_others.Goals as goal

pub returns : goal.returns
returns c = undone_past
