use Rattle.live_tables.specs.MarkedHoldsLemmas.{rollback_keeps_marks}
use Rattle.live_tables.proofs.laws.rollback_keeps_marks.Goals as goal

pub returns : goal.returns
returns c = rollback_keeps_marks
