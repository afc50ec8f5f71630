use Rattle.relcache.proofs.Learnt.{one_named}
use Rattle.relcache.proofs.laws.relations_name_one_table.Goals as goal

pub returns : goal.returns
returns c = λ tables r i j t u valid. one_named tables valid r i j t u
