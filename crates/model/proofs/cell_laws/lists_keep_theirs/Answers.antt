use Rattle.model.specs.SerialLemmas.{lists_keep_theirs}
use Rattle.model.proofs.cell_laws.lists_keep_theirs.Goals as goal

pub returns : goal.returns
returns c = lists_keep_theirs
