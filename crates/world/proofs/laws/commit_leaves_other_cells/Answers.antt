use Rattle.world.specs.CallLemmas.{commit_leaves_other_cells}
use Rattle.world.proofs.laws.commit_leaves_other_cells.Goals as goal

pub returns : goal.returns
returns c = commit_leaves_other_cells
