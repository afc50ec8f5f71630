use Rattle.table_locks.specs.Truncating.{AreRunning}
use Rattle.table_locks.proofs.truncating.are_running.Given as goal

-- it is so of those so far
abbrev pub invariant-loop-place : goal.invariant-loop-place
invariant-loop-place g l = AreRunning l.guards l.place-index
