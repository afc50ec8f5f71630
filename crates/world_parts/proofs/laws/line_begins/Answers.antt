use Rattle.world_parts.specs.LineLemmas as lemma
use Rattle.world_parts.proofs.laws.line_begins.Goals as goal

pub returns : goal.returns
returns c = lemma.line_begins
