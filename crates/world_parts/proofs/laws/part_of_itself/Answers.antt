use Rattle.world_parts.specs.TwiceLemmas as lemma
use Rattle.world_parts.proofs.laws.part_of_itself.Goals as goal

pub returns : goal.returns
returns c = lemma.own_part
