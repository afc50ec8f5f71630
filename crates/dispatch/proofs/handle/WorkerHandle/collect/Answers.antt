use Rattle.std.proofs.Common.{◌≡◌, Option, Some, sym, ap, subst, ◌∙◌}
use Rattle.tokens.specs.Half.{Half}
use Rattle.worker.specs.declared.outbox.OutboxEvent.{OutboxEvent}
use Rattle.worker.specs.Working.{IsInStep}
use Rattle.dispatch.specs.Handle.{Given, HandleModel, handle_model, HasCount, ComesBack}
use Rattle.dispatch.proofs.Giving.{going_xid, came_back, goes_still, job_doing, home_worker}
use Rattle.dispatch.proofs.handle.WorkerHandle.collect.Goals as goal

pub invariant_of-self : goal.invariant_of-self
invariant_of-self g c =
    let l = c.self.inside in
    let job = c.own_job-job.result in
    let met = c.collect-collected in
    let number : job.worker ≡ l.number = c.own_job-job.ensures.worker ∙ sym (ap (λ (s : HandleModel). s.number) c.self.view_is) in
    let given = c.own_job-job.ensures.goes in (
      home_worker (g.L.RingNames.ring l.number) l.token c.split-ticket.result.1 job c.split-ticket.result.0 c.split-ticket.ensures.ticket c.split-ticket.ensures.taker
          (subst (λ n. IsInStep (g.L.RingNames.ring n) job) number c.split-ticket.ensures.step)
          (g.L.OutboxNames.outbox l.number) l.xid met.new.token met.result.1 met.result.0 c.self.invariant.0.name met.ensures.begun
          (given.2 ∙ going_xid l.xid l.token.list l.taker l.back given.0 (ap (λ (s : HandleModel). s.goes) c.self.view_is ∙ given.1))
          met.ensures.start.takes met.ensures.start.acked met.ensures.acked met.ensures.next met.ensures.all.0,
      subst (λ (goes : Option Given). HasCount goes (l.xid, l.count))
          (goes_still l.number l.xid l.token.list l.taker l.back l.collected c.args.self.now c.self.view_is met.result.1 c.split-ticket.result.0 met.new.token.list given.0 given.1 c.own_job-job.ensures.away
          (ap (λ (h : Half OutboxEvent). h.list) met.ensures.begun)) c.self.invariant.1,
    )

pub returns : goal.returns
returns g c =
    let l = c.self.inside in
    let job = c.own_job-job.result in
    let met = c.collect-collected in
    let number : job.worker ≡ l.number = c.own_job-job.ensures.worker ∙ sym (ap (λ (s : HandleModel). s.number) c.self.view_is) in
    let given = c.own_job-job.ensures.goes in (
      met.result.0,
      subst (λ events. ComesBack c.args.self.now met.result.0 (handle_model l.number l.xid events (Some met.result.1) (Some c.split-ticket.result.0) met.result.0)) (sym (ap (λ (h : Half OutboxEvent). h.list) met.ensures.begun))
          (came_back l.number l.xid l.token.list l.taker l.back l.collected c.args.self.now c.self.view_is met.result.1 c.split-ticket.result.0 met.result.0 given.0 given.1 c.own_job-job.ensures.away
          (job_doing (g.L.RingNames.ring l.number) l.token c.split-ticket.result.1 job c.split-ticket.result.0 c.split-ticket.ensures.ticket c.split-ticket.ensures.taker
          (subst (λ n. IsInStep (g.L.RingNames.ring n) job) number c.split-ticket.ensures.step) met.ensures.acked met.ensures.next)),
    )
