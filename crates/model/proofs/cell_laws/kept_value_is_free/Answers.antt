use Rattle.model.specs.FootprintLemmas.{kept_is_free}
use Rattle.model.proofs.cell_laws.kept_value_is_free.Goals as goal

pub returns : goal.returns
returns c = kept_is_free
