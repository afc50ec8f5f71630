use Rattle.model.specs.Types.{value_spelled}
use Rattle.model.proofs.laws.texts_are_read_as_spelled.Goals as goal

pub returns : goal.returns
returns c = value_spelled
