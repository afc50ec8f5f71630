use Rattle.table_locks.specs.Ending.{AreBefore}
use Rattle.table_locks.proofs.ends.are_before.Given as goal

-- it is so of those so far
abbrev pub invariant-loop-place : goal.invariant-loop-place
invariant-loop-place g l = AreBefore l.guards l.place-index l.end
