use Rattle.std.proofs.Common.{subst, ap}
use Rattle.dispatch.specs.Handle.{Given, HandleModel, HasCount}
use Rattle.std.specs.Prelude.{Option}
use Rattle.dispatch.proofs.Giving.{is_counted}
use Rattle.dispatch.proofs.handle.WorkerHandle.given.Goals as goal

pub returns-clause-counted : goal.returns-clause-counted
returns-clause-counted g c =
    let l = c.self.inside in
    is_counted c.args.self.now.goes (l.xid, l.count)
    (subst (λ (goes : Option Given). HasCount goes (l.xid, l.count)) (ap (λ (s : HandleModel). s.goes) c.self.view_is) c.self.invariant.1)
