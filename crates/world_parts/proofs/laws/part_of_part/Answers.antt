use Rattle.world_parts.specs.TwiceLemmas as lemma
use Rattle.world_parts.proofs.laws.part_of_part.Goals as goal

pub returns : goal.returns
returns c table w part other has again =
    (lemma.part_of_part table w part other has.0 again.0, lemma.line_of_part table w part other has.1 again.1)
