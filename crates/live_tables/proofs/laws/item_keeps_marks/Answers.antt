use Rattle.live_tables.specs.MarkedHoldsLemmas.{item_keeps_marks}
use Rattle.live_tables.proofs.laws.item_keeps_marks.Goals as goal

pub returns : goal.returns
returns c = item_keeps_marks
