use Rattle.run_laws.proofs.Moments.{each_moment}
use Rattle.run_laws.proofs.laws.each_moment_is_in_step.Goals as goal

pub returns : goal.returns
returns c = each_moment
