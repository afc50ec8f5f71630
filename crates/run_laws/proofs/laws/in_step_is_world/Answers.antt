use Rattle.run_laws.proofs.Books.{is_world}
use Rattle.run_laws.proofs.laws.in_step_is_world.Goals as goal

pub returns : goal.returns
returns c = is_world
