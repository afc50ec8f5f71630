use Rattle.std.proofs.Common.{◌≡◌}
use Rattle.table_locks.specs.Tickets.{IsTicket}
use Rattle.table_locks.specs.Truncating.{HaveCome}
use Rattle.table_locks.specs.declared.ticket.Waits.{Waits}
use Rattle.table_locks.proofs.truncating.come_each.Given as goal

-- it came to the parts so far
abbrev pub invariant-loop-i : goal.invariant-loop-i
invariant-loop-i g l =
    HaveCome g.N.StoreNames.shares g.N.StoreNames.tables g.N.StoreNames.schema g.N.StoreNames.start l.fn.lent l.i l.lent l.ticket.shares
    × ((waits : Waits) → IsTicket g.N.StoreNames.shares g.N.StoreNames.schema waits l.fn.ticket
    → IsTicket g.N.StoreNames.shares g.N.StoreNames.schema waits l.ticket)
    × (l.ticket.events ≡ l.fn.ticket.events) × (l.ticket.number ≡ l.fn.ticket.number)
