use Rattle.std.proofs.Common.{◌∙◌}
use Rattle.model.proofs.Numbers.{int_of-parses}
use Rattle.model.proofs.types.int.read.Goals as goal

pub returns : goal.returns
returns c = c.ok.ensures.value ∙ int_of-parses c.args.text.now _ c.parse.ensures.value.0
