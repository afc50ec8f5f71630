use Rattle.std.proofs.Common.{◌≡◌, OnOk, sym, subst}
use Rattle.model.specs.declared.item.Item.{Item}
use Rattle.dispatch.specs.Handle.{done_by}
use Rattle.dispatch.specs.Standing.{with_done}
use Rattle.dispatch.proofs.transactions.Transactions.do_item.Goals as goal

pub returns-in-Change-clause-ok : goal.returns-in-Change-clause-ok
returns-in-Change-clause-ok g c =
    subst (λ (item : Item). OnOk c.do_change.result (done_by c.do_change.new.ticket ≡ with_done (done_by c.args.ticket.now) item)) (sym c.in-Change.is)
    c.do_change.ensures.ok

pub returns-in-Touch-clause-ok : goal.returns-in-Touch-clause-ok
returns-in-Touch-clause-ok g c =
    subst (λ (item : Item). OnOk c.touch.result (done_by c.touch.new.ticket ≡ with_done (done_by c.args.ticket.now) item)) (sym c.in-Touch.is)
    c.touch.ensures.ok
