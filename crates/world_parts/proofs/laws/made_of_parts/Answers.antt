use Rattle.world_parts.specs.MadeLemmas as lemma
use Rattle.world_parts.proofs.laws.made_of_parts.Goals as goal

pub returns : goal.returns
returns c = lemma.made_of_parts
