use Rattle.world_parts.specs.ReachedLemmas as lemma
use Rattle.world_parts.proofs.laws.reached_by_parts.Goals as goal

pub returns : goal.returns
returns c = lemma.reached_by_parts
