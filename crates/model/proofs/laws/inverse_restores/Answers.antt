use Rattle.model.specs.EffectLemmas.{back_of_inverse}
use Rattle.model.proofs.laws.inverse_restores.Goals as goal

pub returns : goal.returns
returns c = back_of_inverse
