use Rattle.std.proofs.Common.{subst, ap, ◌∙◌}
use Rattle.worker.specs.Working.{Working, working, GoesOn, HasDone}
use Rattle.worker.specs.WorkingLemmas.{refused_goes_on, done_goes_on, done_in_step, done_item}
use Rattle.worker.proofs.job.Job.do_next.Goals as goal

pub returns-in_err-try_until_done-clause-goes_on :
    goal.returns-in_err-try_until_done-clause-goes_on
returns-in_err-try_until_done-clause-goes_on g c =
    let t = c.try_until_done in
    let comes = c.in_err-try_until_done.ensures.comes in
    subst (λ (w : Working). GoesOn w (working c.self.inside.worker t.new.ticket t.new.taker)) c.self.view_is
    (refused_goes_on c.self.inside.worker c.self.inside.ticket t.new.ticket c.self.inside.taker t.new.taker t.ensures.taker t.ensures.number t.ensures.events _ comes)

pub invariant_of-self-2 : goal.invariant_of-self-2
invariant_of-self-2 g c =
    let t = c.try_until_done in
    done_in_step c.self.inside.worker c.self.inside.ticket t.new.ticket c.self.inside.taker t.new.taker t.ensures.taker t.ensures.number t.ensures.events
    c.ack.new.self c.in_ok-try_until_done.ensures.comes c.ack.ensures (g.L.RingNames.ring c.self.inside.worker) c.self.invariant
    (c.requires.0, ap (λ (w : Working). w.taker.taken) c.self.view_is ∙ c.requires.1, c.requires.2)

pub returns-clause-goes_on : goal.returns-clause-goes_on
returns-clause-goes_on g c =
    let t = c.try_until_done in
    subst (λ (w : Working). GoesOn w (working c.self.inside.worker t.new.ticket c.ack.new.self)) c.self.view_is
    (done_goes_on c.self.inside.worker c.self.inside.ticket t.new.ticket c.self.inside.taker t.new.taker t.ensures.taker t.ensures.number t.ensures.events
    c.ack.new.self c.in_ok-try_until_done.ensures.comes c.ack.ensures)

pub returns-clause-ok : goal.returns-clause-ok
returns-clause-ok g c =
    let t = c.try_until_done in
    subst (λ (w : Working). HasDone w (working c.self.inside.worker t.new.ticket c.ack.new.self)) c.self.view_is
    (done_item c.self.inside.worker c.self.inside.ticket t.new.ticket c.self.inside.taker t.new.taker t.ensures.taker t.ensures.number t.ensures.events
    c.ack.new.self c.in_ok-try_until_done.ensures.comes c.ack.ensures
    (c.requires.0, ap (λ (w : Working). w.taker.taken) c.self.view_is ∙ c.requires.1))
