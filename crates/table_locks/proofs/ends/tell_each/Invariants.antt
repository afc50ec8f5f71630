use Rattle.table_locks.specs.Ending.{past_by, AreTold}
use Rattle.table_locks.proofs.ends.tell_each.Given as goal

-- the tables so far were told
abbrev pub invariant-loop-i : goal.invariant-loop-i
invariant-loop-i g l = AreTold (past_by l.ticket l.info) l.i l.fn.guards l.fn.tables l.guards l.tables
