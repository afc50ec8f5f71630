use Rattle.session.proofs.Skipping.{final_by_law}
use Rattle.session.proofs.laws.skips_the_first.Goals as goal

pub returns : goal.returns
returns c = λ g payloads s t payload m c'. final_by_law g payloads s t payload m c'
