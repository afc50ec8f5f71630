use Rattle.std.proofs.Common.{rules}
use Rattle.catalog.proofs.Each.{each_more, each_none}
use Rattle.catalog.proofs.document.read_array.Goals as goal

pub loop-item-preserved : goal.loop-item-preserved
loop-item-preserved g c = search (rules, each_more g.T.Described.of)

pub returns-in_default-2 : goal.returns-in_default-2
returns-in_default-2 g c = search (rules, each_none g.T.Described.of)
