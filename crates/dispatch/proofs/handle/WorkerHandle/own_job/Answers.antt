use Rattle.std.proofs.Common.{sym, ap, ◌∙◌}
use Rattle.dispatch.specs.Handle.{HandleModel}
use Rattle.dispatch.proofs.Giving.{going_xid}
use Rattle.dispatch.proofs.handle.WorkerHandle.own_job.Goals as goal

pub returns-then-xid-self-clause-goes : goal.returns-then-xid-self-clause-goes
returns-then-xid-self-clause-goes g c =
    let l = c.self.inside in
    let away = c.if-is_away.ensures in
    (away.0, away.1, sym c.xid.ensures ∙ c.if-xid-self.true ∙ sym (going_xid l.xid l.token.list l.taker l.back away.0 (ap (λ (s : HandleModel). s.goes) c.self.view_is ∙ away.1)))
