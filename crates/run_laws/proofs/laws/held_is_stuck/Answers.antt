use Rattle.run_laws.proofs.Books.{stuck_by}
use Rattle.run_laws.proofs.laws.held_is_stuck.Goals as goal

pub returns : goal.returns
returns c = stuck_by
