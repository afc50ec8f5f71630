use Rattle.run_laws.proofs.Closing.{closed}
use Rattle.run_laws.proofs.laws.open_leaves_nothing.Goals as goal

pub returns : goal.returns
returns c = closed
