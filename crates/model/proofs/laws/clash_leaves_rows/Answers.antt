use Rattle.model.specs.EffectLemmas.{effect_clashed}
use Rattle.model.proofs.laws.clash_leaves_rows.Goals as goal

pub returns : goal.returns
returns c = effect_clashed
