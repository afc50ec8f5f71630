use Rattle.std.proofs.Common.{refl}
use Rattle.dispatch.proofs.Giving.{held_in}
use Rattle.dispatch.proofs.handle.WorkerHandleSlot.into_ticket.Goals as goal

pub returns-clause-holds : goal.returns-clause-holds
returns-clause-holds g c =
    let l = c.self.inside in
    (held_in l.number l.xid l.token.list l.taker l.back l.collected c.args.self c.self.view_is (g.L.RingNames.ring l.number) (g.L.OutboxNames.outbox l.number) l.token refl c.self.invariant.0).0

pub returns-clause-keeps : goal.returns-clause-keeps
returns-clause-keeps g c =
    let l = c.self.inside in
    (held_in l.number l.xid l.token.list l.taker l.back l.collected c.args.self c.self.view_is (g.L.RingNames.ring l.number) (g.L.OutboxNames.outbox l.number) l.token refl c.self.invariant.0).1
