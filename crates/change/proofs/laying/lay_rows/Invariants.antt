use Rattle.change.proofs.LayingUnder.{IsLaying}
use Rattle.change.proofs.laying.lay_rows.Given as goal

abbrev pub invariant-loop-row : goal.invariant-loop-row
invariant-loop-row l = IsLaying l.emptied.contents l.fn.known l.known l.row-iterator
