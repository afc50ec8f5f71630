use Rattle.table_locks.specs.ComingLemmas as coming
use Rattle.table_locks.specs.TicketLemmas.{belongs_to}
use Rattle.table_locks.specs.declared.ticket.Waits.TheVariants.{Somewhere}
use Rattle.table_locks.proofs.acting.come_tied.Goals as goal

pub come_to-answer-requires : goal.come_to-answer-requires
come_to-answer-requires g c =
    belongs_to g.N.StoreNames.shares g.N.StoreNames.schema Somewhere c.args.ticket.now c.requires.ticket g.N.StoreNames.start c.args.part.now c.requires.kept

pub returns-clause-fits : goal.returns-clause-fits
returns-clause-fits g c =
    let call = c.come_to-answer in
    coming.came_fits g.N.StoreNames.shares g.N.StoreNames.tables g.N.StoreNames.schema g.N.StoreNames.start c.args.part.now c.requires.kept call.new.part
    call.ensures.same call.ensures.part call.ensures.end

pub returns-clause-is : goal.returns-clause-is
returns-clause-is g c waits is =
    let call = c.come_to-answer in
    coming.came_is g.N.StoreNames.shares g.N.StoreNames.tables g.N.StoreNames.schema g.N.StoreNames.start c.args.part.now c.requires.kept call.new.part
    call.ensures.same call.ensures.part waits c.args.ticket.now is call.new.ticket call.ensures.xid call.ensures.events call.ensures.others call.result
    c.requires.known c.recall_invariant.ensures c.recall_invariant-2.ensures call.ensures.belongs call.ensures.err call.ensures.first call.ensures.again
    call.ensures.stands
