use Rattle.session.proofs.Streams.{leads_to_one}
use Rattle.session.proofs.laws.one_state.Goals as goal

pub returns : goal.returns
returns c = λ g s payloads t u. leads_to_one c.one_message.ensures g s payloads t u
