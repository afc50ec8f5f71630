use Rattle.run_laws.proofs.Threading.{clean_alone}
use Rattle.run_laws.proofs.laws.clean_is_without_threads.Goals as goal

pub returns : goal.returns
returns c = clean_alone
