use Rattle.table_locks.specs.TicketLemmas.{belongs_to}
use Rattle.table_locks.proofs.meeting.meet_one.Goals as goal

pub meet_in-requires : goal.meet_in-requires
meet_in-requires g c =
    belongs_to g.N.StoreNames.shares g.N.StoreNames.schema c.ticket.inside.waits c.ticket.inside.ticket c.ticket.invariant.0 g.N.StoreNames.start c.args.part.now
    c.requires.kept
