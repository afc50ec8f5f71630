use Rattle.messages.proofs.Payloads.{begins_none}
use Rattle.messages.proofs.laws.no_spelling_begins_another.Goals as goal

pub returns : goal.returns
returns c = begins_none
