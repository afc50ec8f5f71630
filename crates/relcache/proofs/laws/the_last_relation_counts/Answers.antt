use Rattle.relcache.proofs.Learnt.{relation_of-learnt_own, relation_of-learnt_other, says}
use Rattle.relcache.proofs.laws.the_last_relation_counts.Goals as goal

pub returns-clause-own : goal.returns-clause-own
returns-clause-own c = relation_of-learnt_own

pub returns-clause-others : goal.returns-clause-others
returns-clause-others c = relation_of-learnt_other

pub returns-clause-says : goal.returns-clause-says
returns-clause-says c = says
