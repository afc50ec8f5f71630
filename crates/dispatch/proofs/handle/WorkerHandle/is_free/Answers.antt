use Rattle.std.proofs.Common.{sym, ◌∙◌}
use Rattle.dispatch.proofs.Giving.{free_here, away_here}
use Rattle.dispatch.proofs.handle.WorkerHandle.is_free.Goals as goal

pub returns-then-is_some : goal.returns-then-is_some
returns-then-is_some g c =
    let l = c.self.inside in
    free_here l.number l.xid l.token.list l.taker l.back l.collected c.args.self.now c.self.view_is (sym c.is_some.ensures ∙ c.if-is_some.true) c.is_none.result c.is_none.ensures

pub returns-else-is_some : goal.returns-else-is_some
returns-else-is_some g c =
    let l = c.self.inside in
    away_here l.number l.xid l.token.list l.taker l.back l.collected c.args.self.now c.self.view_is c.is_some.result c.is_some.ensures c.if-is_some.false
