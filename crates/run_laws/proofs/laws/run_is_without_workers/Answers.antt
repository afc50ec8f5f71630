use Rattle.run_laws.proofs.NoWorkers.{without_workers}
use Rattle.run_laws.proofs.laws.run_is_without_workers.Goals as goal

pub returns : goal.returns
returns c = without_workers
