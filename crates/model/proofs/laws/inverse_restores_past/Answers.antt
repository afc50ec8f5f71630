use Rattle.model.specs.EffectLemmas.{back_past}
use Rattle.model.proofs.laws.inverse_restores_past.Goals as goal

pub returns : goal.returns
returns c = back_past
