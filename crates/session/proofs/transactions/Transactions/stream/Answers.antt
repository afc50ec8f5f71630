use Rattle.std.proofs.Common.{◌≡◌, ◌+◌, sym, ap, ◌∙◌, arith, refl, Option, cond, true, false}
use Rattle.std.specs.Prelude.{is_some, ◌&&◌, nat_lt}
use Rattle.std.specs.BTreeMap.{btree_map_len}
use Rattle.std.proofs.lemmas.Bool.{lt-ltb, le-ltb}
use Rattle.session.specs.State.{Worker, Spooled, worker_count}
use Rattle.session.specs.declared.transactions.OpenTransaction.{OpenTransaction}
use Rattle.session.proofs.Kept.{absent_from_room, kept_absent, Represents-insert, IsStreamed-refused}
use Rattle.session.proofs.transactions.Transactions.stream.Goals as goal
use Rattle.session.proofs.transactions.Transactions.stream.Goals.{else-may_have_worker-via-then-may_have_worker+else-self, else-may_have_worker-via-else-may_have_worker}

pub returns-in_err-check_room : goal.returns-in_err-check_room
returns-in_err-check_room c = λ g m kept. IsStreamed-refused g c.args.self.now m c.args.xid c.args.may_have_worker c.from_residual.result c.in_err-check_room.field-0.0 kept (c.in_err-check_room.ensures g m kept) c.from_residual.ensures.1

pub returns-in_ok-insert : goal.returns-in_ok-insert
returns-in_ok-insert c = λ g m kept.
    let room = c.in_ok-check_room.ensures g m kept in
    let none = absent_from_room m c.args.xid room in
    let fresh = c.in_ok-insert.ensures.old ∙ kept_absent c.args.self.now.ways m c.args.xid kept.ways none in
    let more = c.in_ok-insert.ensures.len ∙ ap (λ (o : Option OpenTransaction). btree_map_len c.args.self.now.ways + cond (is_some o) 0 1) fresh in
    let free : nat_lt (worker_count m) g.workers ≡ true = lt-ltb (worker_count m) g.workers (omega (arith, c.if-self.true, kept.working, kept.workers)) in
    (room, sym (rw (c.if-may_have_worker.true, free) refl), Represents-insert g c.args.self.now _ m c.args.xid Worker kept none c.in_ok-insert.ensures.updates more refl (omega arith) refl refl refl)

pub returns-in_ok-insert-2 : goal.returns-in_ok-insert-2
returns-in_ok-insert-2 c = λ g m kept.
    let room = c.in_ok-check_room.ensures g m kept in
    let none = absent_from_room m c.args.xid room in
    let fresh = c.in_ok-insert-2.ensures.old ∙ kept_absent c.args.self.now.ways m c.args.xid kept.ways none in
    let more = c.in_ok-insert-2.ensures.len ∙ ap (λ (o : Option OpenTransaction). btree_map_len c.args.self.now.ways + cond (is_some o) 0 1) fresh in
    let works : (c.args.may_have_worker && nat_lt (worker_count m) g.workers) ≡ false = elim c.else-may_have_worker.branch [
      | else-may_have_worker-via-then-may_have_worker+else-self w ↦
          let full : nat_lt (worker_count m) g.workers ≡ false = le-ltb (worker_count m) g.workers (omega (arith, w.if-self.false, kept.working, kept.workers)) in
          rw (w.if-may_have_worker.true, full) refl
      | else-may_have_worker-via-else-may_have_worker w ↦ rw w.if-may_have_worker.false refl
    ] in
    let step = rw c.new.ensures at c.in_ok-insert-2.ensures.updates in
    (room, sym works, Represents-insert g c.args.self.now _ m c.args.xid Spooled kept none step more refl (omega arith) refl refl refl)
