use Rattle.run_laws.proofs.FirstCause.{at_first_cause}
use Rattle.run_laws.proofs.laws.ends_at_first_cause.Goals as goal

pub returns : goal.returns
returns c = at_first_cause
