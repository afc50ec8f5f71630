use Rattle.std.proofs.Common.{◌≡◌, refl, rules}
use Rattle.worker.specs.declared.outbox.Collected.TheVariants.{All as WasAll}
use Rattle.dispatch.proofs.Giving.{has_all}
use Rattle.dispatch.proofs.handle.WorkerHandle.take_done.Goals as goal

pub returns-clause-taken : goal.returns-clause-taken
returns-clause-taken g c =
    let l = c.self.inside in
    let all : l.collected ≡ WasAll = search rules in
    has_all l.number l.xid l.token.list l.taker l.back l.collected c.args.self.now c.self.view_is (g.L.RingNames.ring l.number) (g.L.OutboxNames.outbox l.number) l.token refl c.self.invariant.0
    all c.take_back.result c.take_back.new.self c.take_back.ensures
