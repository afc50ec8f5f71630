use Rattle.undo.specs.LogLemmas.{log_past}
use Rattle.undo.proofs.laws.past_others_is_log.Goals as goal

pub returns : goal.returns
returns c = log_past
