use Rattle.dispatch.proofs.Giving.{whose}
use Rattle.dispatch.proofs.handle.WorkerHandle.is_away.Goals as goal

pub returns : goal.returns
returns g c =
    let l = c.self.inside in
    whose l.number l.xid l.token.list l.taker l.back l.collected c.args.self.now c.self.view_is (g.L.RingNames.ring l.number) (g.L.OutboxNames.outbox l.number) l.token c.self.invariant.0
    c.is_none.result c.is_none.ensures
