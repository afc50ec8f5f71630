use Rattle.model.specs.EffectLemmas.{serial_append}
use Rattle.model.proofs.laws.serial_appends.Goals as goal

pub returns : goal.returns
returns c = serial_append
