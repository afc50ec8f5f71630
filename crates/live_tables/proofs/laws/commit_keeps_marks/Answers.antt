use Rattle.live_tables.specs.MarkedHoldsLemmas.{commit_keeps_marks}
use Rattle.live_tables.proofs.laws.commit_keeps_marks.Goals as goal

pub returns : goal.returns
returns c = commit_keeps_marks
