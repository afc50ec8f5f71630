use Rattle.std.proofs.Common.{sym, ap, refl}
use Rattle.session.proofs.Steps.{opens-admitted, opens-refused, err_is, step_if}
use Rattle.session.proofs.session.Session.open.Goals as goal

pub returns-in_err-has_worker : goal.returns-in_err-has_worker
returns-in_err-has_worker c = λ g h represents outside.
    opens-refused g c.args.self.now _ h c.args.xid c.from_residual.result c.in_err-has_worker.field-0.0 represents (c.in_err-has_worker.ensures g h.transactions represents.transactions) refl refl refl refl (err_is c.from_residual.result c.in_err-has_worker.field-0.0 c.from_residual.ensures.1)

pub returns-then-has_worker : goal.returns-then-has_worker
returns-then-has_worker c = λ g h represents outside.
    opens-admitted g c.args.self.now _ h c.args.xid c.is_none.result c.in_ok-has_worker.has_worker _ represents outside c.is_none.ensures (c.in_ok-has_worker.ensures g h.transactions represents.transactions) refl refl refl refl (ap (step_if c.args.xid) (sym c.if-has_worker.true))

pub returns-else-has_worker : goal.returns-else-has_worker
returns-else-has_worker c = λ g h represents outside.
    opens-admitted g c.args.self.now _ h c.args.xid c.is_none.result c.in_ok-has_worker.has_worker _ represents outside c.is_none.ensures (c.in_ok-has_worker.ensures g h.transactions represents.transactions) refl refl refl refl (ap (step_if c.args.xid) (sym c.if-has_worker.false))
