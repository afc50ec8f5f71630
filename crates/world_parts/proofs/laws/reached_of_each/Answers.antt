use Rattle.world_parts.specs.TwiceLemmas as lemma
use Rattle.world_parts.proofs.laws.reached_of_each.Goals as goal

pub returns : goal.returns
returns c = lemma.reached_of_each
