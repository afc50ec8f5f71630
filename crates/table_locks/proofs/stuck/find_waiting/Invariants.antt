use Rattle.std.proofs.Common.{◌≡◌}
use Rattle.parted_store.specs.Lent.{OpenTicket}
use Rattle.table_locks.specs.MeetingLemmas.{EachBelow}
use Rattle.table_locks.specs.Stuck.{WaitsNowhere}
use Rattle.table_locks.specs.Whole.{AreSameStates}
use Rattle.table_locks.proofs.stuck.find_waiting.Given as goal

-- of those so far none that is the transaction's waits, and nothing has changed
abbrev pub invariant-loop-i : goal.invariant-loop-i
invariant-loop-i g l = record {
  same : AreSameStates l.fn.guards l.guards;
  tickets : l.tickets ≡ l.fn.tickets;
  nowhere : EachBelow (λ (t : OpenTicket). t.number ≡ l.xid → WaitsNowhere l.fn.guards l.tables t) l.fn.tickets l.i;
}
