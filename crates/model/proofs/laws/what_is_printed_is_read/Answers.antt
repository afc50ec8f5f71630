use Rattle.model.specs.Types.{value_printed}
use Rattle.model.proofs.laws.what_is_printed_is_read.Goals as goal

pub returns : goal.returns
returns c = value_printed
