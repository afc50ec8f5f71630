use Rattle.model.specs.EffectLemmas.{effect_skipped}
use Rattle.model.proofs.laws.skip_leaves_rows.Goals as goal

pub returns : goal.returns
returns c = effect_skipped
