use Rattle.messages.proofs.Onlys.{spelled_once}
use Rattle.messages.proofs.laws.one_spelling.Goals as goal

pub returns : goal.returns
returns c = spelled_once
