use Rattle.world_parts.specs.StepLemmas as lemma
use Rattle.world_parts.proofs.laws.waiting_leads.Goals as goal

pub returns : goal.returns
returns c = λ schema table part new xid o open_one sub tables at apart named. lemma.waiting_leads schema table part new xid o open_one sub tables at apart named
