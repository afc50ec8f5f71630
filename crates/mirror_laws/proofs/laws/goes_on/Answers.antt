use Rattle.mirror_laws.proofs.GoingOn as lemma
use Rattle.mirror_laws.proofs.laws.goes_on.Goals as goal

pub returns : goal.returns
returns c = lemma.goes_on
