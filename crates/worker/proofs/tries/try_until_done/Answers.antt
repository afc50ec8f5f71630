use Rattle.std.proofs.Common.{Err, refl, sym, subst}
use Rattle.engine.specs.Events.{opened_by}
use Rattle.worker.specs.Working.{IsTaken}
use Rattle.worker.proofs.Trying.{comes_done, comes_refused, comes_begins}
use Rattle.worker.proofs.tries.try_until_done.Goals as goal

pub returns-in_err-try_taken-clause-comes : goal.returns-in_err-try_taken-clause-comes
returns-in_err-try_taken-clause-comes g c =
    let t = c.try_taken in
    comes_refused c.args.taker.now t.new.taker t.ensures.taker c.args.ticket.now.events t.new.ticket.events (opened_by c.args.ticket.now.events) refl
    c.from_residual.result c.in_err-try_taken.field-0.0 c.from_residual.ensures.1 c.requires.next c.in_err-try_taken.ensures.comes

pub returns-in-Done-clause-comes : goal.returns-in-Done-clause-comes
returns-in-Done-clause-comes g c =
    let t = c.try_taken in
    comes_done c.args.taker.now t.new.taker t.ensures.taker c.args.ticket.now.events t.new.ticket.events (opened_by c.args.ticket.now.events) refl
    c.in_ok-try_taken.field-0 c.in-Done.is c.in_ok-try_taken.ensures.comes

-- in the loop

pub returns-in_err-try_taken-2-clause-events : goal.returns-in_err-try_taken-2-clause-events
returns-in_err-try_taken-2-clause-events g c =
    let comes = c.in_err-try_taken-2.ensures.comes in
    comes_begins c.args.ticket.now.events c.loop.ticket.events c.try_taken-in-loop.new.ticket.events c.loop.invariant.events
    (Err c.in_err-try_taken-2.field-0.0) comes.0 comes.2

pub returns-in_err-try_taken-2-clause-comes : goal.returns-in_err-try_taken-2-clause-comes
returns-in_err-try_taken-2-clause-comes g c =
    let t = c.try_taken-in-loop in
    comes_refused c.doomed.new.self t.new.taker t.ensures.taker c.loop.ticket.events t.new.ticket.events (opened_by c.args.ticket.now.events)
    c.loop.invariant.done c.from_residual-in_err-try_taken-2.result c.in_err-try_taken-2.field-0.0 c.from_residual-in_err-try_taken-2.ensures.1
    (subst (IsTaken (opened_by c.loop.ticket.events).wants) (sym c.doomed.ensures.taken) c.loop.invariant.wants) c.in_err-try_taken-2.ensures.comes

pub returns-in-Done-2-clause-comes : goal.returns-in-Done-2-clause-comes
returns-in-Done-2-clause-comes g c =
    let t = c.try_taken-in-loop in
    comes_done c.doomed.new.self t.new.taker t.ensures.taker c.loop.ticket.events t.new.ticket.events (opened_by c.args.ticket.now.events)
    c.loop.invariant.done c.in_ok-try_taken-2.field-0 c.in-Done-2.is c.in_ok-try_taken-2.ensures.comes
