use Rattle.snapshot.specs.ReadLemmas as law
use Rattle.snapshot.proofs.laws.one_position.Goals as goal

pub returns : goal.returns
returns c = law.one_position
