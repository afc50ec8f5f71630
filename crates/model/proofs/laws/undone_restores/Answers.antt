use Rattle.model.specs.EffectLemmas.{all_back_serial}
use Rattle.model.proofs.laws.undone_restores.Goals as goal

pub returns : goal.returns
returns c = all_back_serial
