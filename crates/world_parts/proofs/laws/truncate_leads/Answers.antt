use Rattle.world_parts.specs.StepLemmas as lemma
use Rattle.world_parts.proofs.laws.truncate_leads.Goals as goal

pub returns : goal.returns
returns c = λ schema table part new xid o open_one sub tables. lemma.truncate_leads schema table part new xid o open_one sub tables
