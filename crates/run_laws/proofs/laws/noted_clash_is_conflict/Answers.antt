use Rattle.run_laws.proofs.Books.{noted_conflict}
use Rattle.run_laws.proofs.laws.noted_clash_is_conflict.Goals as goal

pub returns : goal.returns
returns c = noted_conflict
