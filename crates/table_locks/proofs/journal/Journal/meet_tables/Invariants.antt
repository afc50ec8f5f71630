use Rattle.std.proofs.Common.{◌≡◌}
use Rattle.table_locks.specs.GuardLemmas.{MetBelow}
use Rattle.table_locks.specs.Whole.{AreSameStates}
use Rattle.table_locks.proofs.journal.Journal.meet_tables.Given as goal

-- those so far are met, and nothing has changed
abbrev pub invariant-loop-table : goal.invariant-loop-table
invariant-loop-table g l = record {
  same : AreSameStates l.fn.guards l.guards;
  journal : l.self ≡ l.fn.self;
  tickets : l.tickets ≡ l.fn.tickets;
  met :
      MetBelow g.N.StoreNames.shares g.N.StoreNames.tables g.N.StoreNames.schema g.N.StoreNames.start l.fn.self.part.line.list l.fn.tickets l.fn.guards
      l.table;
}
