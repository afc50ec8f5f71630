use Rattle.run_laws.proofs.WithoutThreads.{without_threads}
use Rattle.run_laws.proofs.laws.first_cause_is_without_threads.Goals as goal

pub returns : goal.returns
returns c = without_threads
