use Rattle.run_laws.proofs.Threading.{one_open}
use Rattle.run_laws.proofs.laws.one_is_open_without_workers.Goals as goal

pub returns : goal.returns
returns c = one_open
