use Rattle.std.proofs.Common.{refl, sym, ◌∙◌}
use Rattle.dispatch.proofs.Giving.{opened}
use Rattle.dispatch.proofs.handle.WorkerHandle.start.Goals as goal

pub invariant_of-self : goal.invariant_of-self
invariant_of-self g c =
    let l = c.self.inside in
    opened l.number l.xid l.token.list l.taker l.back l.collected c.args.self.now c.self.view_is (g.L.RingNames.ring l.number) (g.L.OutboxNames.outbox l.number) l.token c.xid-self-inside.result c.in-Some.taker c.take.new.self refl
    (sym c.take.ensures.value ∙ c.in-Some.is) c.take.ensures.after c.requires.free.1 c.self.invariant.0
