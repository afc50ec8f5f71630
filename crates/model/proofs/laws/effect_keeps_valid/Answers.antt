use Rattle.model.specs.EffectLemmas.{effect_valid}
use Rattle.model.proofs.laws.effect_keeps_valid.Goals as goal

pub returns : goal.returns
returns c = effect_valid
