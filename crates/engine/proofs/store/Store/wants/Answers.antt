use Rattle.engine.specs.Events.{opened_by}
use Rattle.engine.specs.Engine.{world_in}
use Rattle.engine.proofs.StoreTickets.{its_ticket, open_under}
use Rattle.engine.proofs.store.Store.wants.Goals as goal

pub returns-clause-wants : goal.returns-clause-wants
returns-clause-wants c =
    c.wants.ensures (world_in c.self.inside) (opened_by c.args.t.now.list) c.self.invariant.tied
    (open_under c.self.invariant (its_ticket c.t.view_is c.number-xid.ensures c.t.view_is c.meet.ensures.listed))
