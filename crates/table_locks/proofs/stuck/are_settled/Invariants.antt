use Rattle.std.proofs.Common.{◌≡◌}
use Rattle.table_locks.specs.MeetingLemmas.{EachBelow}
use Rattle.table_locks.specs.Stuck.{IsSettledAt}
use Rattle.table_locks.specs.Whole.{AreSameStates}
use Rattle.table_locks.proofs.stuck.are_settled.Given as goal

-- those so far are settled, and nothing has changed
abbrev pub invariant-loop-i : goal.invariant-loop-i
invariant-loop-i g l = record {
  same : AreSameStates l.fn.guards l.guards;
  tickets : l.tickets ≡ l.fn.tickets;
  settled : EachBelow (IsSettledAt l.fn.guards l.tables l.sent) l.fn.tickets l.i;
}
