use Rattle.world.specs.CallLemmas.{commit_moves_no_holds}
use Rattle.world.proofs.laws.commit_moves_no_holds.Goals as goal

pub returns : goal.returns
returns c = commit_moves_no_holds
