use Rattle.std.proofs.Common.{ℕ, subst}
use Rattle.parted_store.specs.Lent.{OpenTicket, WaitsIn}
use Rattle.table_locks.specs.TicketLemmas.{belongs_to}
use Rattle.table_locks.proofs.stuck.holder_tied.Goals as goal

pub holder_in-requires : goal.holder_in-requires
holder_in-requires g c =
    belongs_to g.N.StoreNames.shares g.N.StoreNames.schema c.ticket.inside.waits c.ticket.inside.ticket c.ticket.invariant.0 g.N.StoreNames.start c.args.part.now
    c.requires.kept

pub returns-clause-free : goal.returns-clause-free
returns-clause-free g c none =
    subst (λ (t : OpenTicket). (holder : ℕ) → ¬ (WaitsIn c.args.part.now t.shares holder)) c.ticket.view_is (c.holder_in.ensures.free none)
