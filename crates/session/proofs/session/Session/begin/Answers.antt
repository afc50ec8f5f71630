use Rattle.std.proofs.Common.{refl}
use Rattle.session.proofs.Steps.{begins-admitted, begins-refused, err_is}
use Rattle.session.proofs.session.Session.begin.Goals as goal

pub returns-in_err-begin-in-Outside : goal.returns-in_err-begin-in-Outside
returns-in_err-begin-in-Outside c = λ g h represents.
    begins-refused g c.args.self.now _ h c.args.m.now _ _ c.from_residual.result c.in_err-begin-in-Outside.field-0.0 represents c.in-Outside.is (c.in_err-begin-in-Outside.ensures g h.transactions represents.transactions) refl refl refl refl (err_is c.from_residual.result c.in_err-begin-in-Outside.field-0.0 c.from_residual.ensures.1)

pub returns-in_ok-begin-in-Outside : goal.returns-in_ok-begin-in-Outside
returns-in_ok-begin-in-Outside c = λ g h represents.
    begins-admitted g c.args.self.now _ h c.args.m.now _ _ represents c.in-Outside.is (c.in_ok-begin-in-Outside.ensures g h.transactions represents.transactions) refl refl refl refl
