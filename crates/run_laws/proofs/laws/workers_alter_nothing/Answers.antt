use Rattle.run_laws.proofs.Threading.{workers_alter}
use Rattle.run_laws.proofs.laws.workers_alter_nothing.Goals as goal

pub returns : goal.returns
returns c = workers_alter
