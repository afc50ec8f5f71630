use Rattle.std.proofs.Common.{refl, sym, ap}
use Rattle.session.proofs.Items.{gives-admitted, step_given}
use Rattle.session.proofs.session.Session.add_item.Goals as goal

pub returns-in-Some : goal.returns-in-Some
returns-in-Some c = λ g h o represents some room survives of_tables directly.
    let taken = c.in_ok-item.ensures g h.transactions o represents.transactions some room survives in
    gives-admitted g c.args.self.now _ h c.args.xid o c.args.item c.args.size c.in_ok-item.field-0 _ _ represents some refl taken.0 taken.1 of_tables directly refl refl refl refl (sym (ap (step_given c.args.xid) c.in-Some.is))

pub returns-in-None : goal.returns-in-None
returns-in-None c = λ g h o represents some room survives of_tables directly.
    let taken = c.in_ok-item.ensures g h.transactions o represents.transactions some room survives in
    gives-admitted g c.args.self.now _ h c.args.xid o c.args.item c.args.size c.in_ok-item.field-0 _ _ represents some refl taken.0 taken.1 of_tables directly refl refl refl refl (sym (ap (step_given c.args.xid) c.in-None.is))
