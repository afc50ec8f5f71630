use Rattle.std.proofs.Common.{◌+◌, ap, ◌∙◌, arith, refl, Option, cond}
use Rattle.std.specs.Prelude.{is_some}
use Rattle.std.specs.BTreeMap.{btree_map_len}
use Rattle.session.specs.State.{Direct}
use Rattle.session.specs.declared.transactions.OpenTransaction.{OpenTransaction}
use Rattle.session.proofs.Kept.{absent_from_room, kept_absent, Represents-insert, IsOpened-refused}
use Rattle.session.proofs.transactions.Transactions.begin.Goals as goal

pub returns-in_err-check_room : goal.returns-in_err-check_room
returns-in_err-check_room c = λ g m kept. IsOpened-refused g c.args.self.now m c.args.xid c.from_residual.result c.in_err-check_room.field-0.0 kept (c.in_err-check_room.ensures g m kept) c.from_residual.ensures.1

pub returns : goal.returns
returns c = λ g m kept.
    let room = c.in_ok-check_room.ensures g m kept in
    let none = absent_from_room m c.args.xid room in
    let fresh = c.in_ok-insert.ensures.old ∙ kept_absent c.args.self.now.ways m c.args.xid kept.ways none in
    let more = c.in_ok-insert.ensures.len ∙ ap (λ (o : Option OpenTransaction). btree_map_len c.args.self.now.ways + cond (is_some o) 0 1) fresh in
    (room, Represents-insert g c.args.self.now _ m c.args.xid Direct kept none c.in_ok-insert.ensures.updates more refl (omega arith) refl refl refl)
