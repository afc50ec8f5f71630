use Rattle.std.proofs.Common.{◌≡◌}
use Rattle.table_locks.specs.Stuck.{WaitsNowhere}
use Rattle.table_locks.specs.Whole.{AreSameStates}
use Rattle.table_locks.proofs.stuck.holder_among.Given as goal

-- in those so far it waits for nobody, and nothing has changed
abbrev pub invariant-loop-table : goal.invariant-loop-table
invariant-loop-table g l = record {
  same : AreSameStates l.fn.guards l.guards;
  ticket : l.ticket ≡ l.fn.ticket;
  nowhere : WaitsNowhere l.fn.guards l.table l.fn.ticket;
}
