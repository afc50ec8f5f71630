use Rattle.std.proofs.Common.{Some, refl, sym, subst, ◌∙◌}
use Rattle.dispatch.specs.Handle.{going, IsHandle, HasCount}
use Rattle.dispatch.proofs.Giving.{taken_out, emptied}
use Rattle.dispatch.proofs.handle.WorkerHandle.take_back.Goals as goal

pub invariant_of-self : goal.invariant_of-self
invariant_of-self g c =
    let l = c.self.inside in
    subst (λ ticket. IsHandle (g.L.RingNames.ring l.number) (g.L.OutboxNames.outbox l.number) l.xid l.token l.taker ticket l.collected
    × HasCount (going l.xid l.token.list l.taker ticket) (l.xid, l.count)) (sym c.take.ensures.value ∙ c.in_err-ticket.was ∙ sym c.take.ensures.after) c.self.invariant

pub invariant_of-self-2 : goal.invariant_of-self-2
invariant_of-self-2 g c =
    let l = c.self.inside in
    emptied l.number l.xid l.token.list l.taker l.back l.collected c.args.self.now c.self.view_is (g.L.RingNames.ring l.number) (g.L.OutboxNames.outbox l.number) l.token refl c.self.invariant.0
    c.in_ok-ticket.ticket c.take.new.self (sym c.take.ensures.value ∙ c.in_ok-ticket.was) c.take.ensures.after

pub returns : goal.returns
returns g c =
    let l = c.self.inside in
    taken_out l.number l.xid l.token.list l.taker l.back l.collected c.args.self.now c.self.view_is (g.L.RingNames.ring l.number) (g.L.OutboxNames.outbox l.number) l.token refl c.self.invariant.0
    (Some c.in_ok-ticket.ticket) c.take.new.self (sym c.in_ok-ticket.was ∙ c.take.ensures.value) c.take.ensures.after
