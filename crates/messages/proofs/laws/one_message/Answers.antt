use Rattle.messages.proofs.Payloads.{one_message-law}
use Rattle.messages.proofs.laws.one_message.Goals as goal

pub returns : goal.returns
returns c = one_message-law
