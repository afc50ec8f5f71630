use Rattle.std.proofs.Common.{subst}
use Rattle.table_locks.specs.CallLemmas.{somewhere}
use Rattle.table_locks.specs.Tickets.{IsTicketOf}
use Rattle.table_locks.proofs.ticket.Ticket.recall_invariant.Goals as goal

pub returns-clause-is : goal.returns-clause-is
returns-clause-is g c =
    subst (IsTicketOf g.N.StoreNames.shares g.N.StoreNames.schema) c.self.view_is
    (somewhere g.N.StoreNames.shares g.N.StoreNames.schema g.N.StoreNames.start c.self.inside.waits c.self.inside.ticket c.self.invariant.0)
