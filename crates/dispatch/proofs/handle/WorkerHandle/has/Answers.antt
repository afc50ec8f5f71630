use Rattle.std.proofs.Common.{ap, ◌∙◌}
use Rattle.dispatch.specs.Handle.{HandleModel}
use Rattle.dispatch.proofs.Giving.{going_xid, has_it}
use Rattle.dispatch.proofs.handle.WorkerHandle.has.Goals as goal

pub returns-then-not-is_free : goal.returns-then-not-is_free
returns-then-not-is_free g c =
    let there = c.if-not-is_free.ensures in
    has_it c.self.inside.xid c.args.xid c.args.self.now.goes there.0 there.1
    (going_xid c.self.inside.xid c.self.inside.token.list c.self.inside.taker c.self.inside.back there.0 (ap (λ (l : HandleModel). l.goes) c.self.view_is ∙ there.1))
