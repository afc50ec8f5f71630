use Rattle.std.proofs.Common.{rules, ◌≡◌, List, Some, None, inl, inr, sym, subst}
use Rattle.std.specs.Prelude.{slice_get}
use Rattle.parted_store.specs.Lent.{OpenTicket}
use Rattle.table_locks.specs.Stuck.{TellsWaiting, TellsStuck}
use Rattle.table_locks.specs.StuckLemmas.{settled_before, nowhere_before}
use Rattle.table_locks.proofs.stuck.find_stuck.Goals as goal

pub returns-in_err-holder-clause-stuck : goal.returns-in_err-holder-clause-stuck
returns-in_err-holder-clause-stuck g c xid named =
    let same : c.in_ok-waiter.waiter ≡ xid = search rules in
    let none : c.from_residual-in_err-holder.result ≡ None = search rules in
    let found : c.find_waiting.result ≡ None = search rules in
    subst (TellsStuck c.args.guards.now c.args.tables c.args.tickets.now c.args.sent.now xid) (sym none)
    (inl (subst (λ n. TellsWaiting c.args.guards.now c.args.tables c.args.tickets.now n None) same
    (subst (TellsWaiting c.args.guards.now c.args.tables c.args.tickets.now c.in_ok-waiter.waiter) found c.find_waiting.ensures.waiting)))

pub returns-then-are_settled-clause-stuck : goal.returns-then-are_settled-clause-stuck
returns-then-are_settled-clause-stuck g c xid named =
    let same : c.in_ok-waiter.waiter ≡ xid = search rules in
    let found : c.find_waiting.result ≡ Some c.in_ok-holder.holder = search rules in
    let before = c.find_waiting.ensures.guards in (
      subst (λ n. TellsWaiting c.args.guards.now c.args.tables c.args.tickets.now n (Some c.in_ok-holder.holder)) same
          (subst (TellsWaiting c.args.guards.now c.args.tables c.args.tickets.now c.in_ok-waiter.waiter) found c.find_waiting.ensures.waiting),
      λ i t at.
          settled_before c.args.guards.now c.find_waiting.new.guards before c.args.tables c.args.sent.now t
          (c.are_settled.ensures.settled c.if-are_settled.true i t
          (subst (λ (ts : List OpenTicket). slice_get ts i ≡ Some t) (sym c.find_waiting.ensures.tickets) at)),
    )

pub returns-else-are_settled-clause-stuck : goal.returns-else-are_settled-clause-stuck
returns-else-are_settled-clause-stuck g c xid named =
    let (i, t, at, unsettled) = c.are_settled.ensures.unsettled c.if-are_settled.false in
    inr (
      i,
      t,
      subst (λ (ts : List OpenTicket). slice_get ts i ≡ Some t) c.find_waiting.ensures.tickets at,
      (
        unsettled.0,
        nowhere_before c.args.guards.now c.find_waiting.new.guards c.find_waiting.ensures.guards c.args.tables t unsettled.1,
      ),
    )
