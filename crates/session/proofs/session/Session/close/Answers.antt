use Rattle.std.proofs.Common.{◌≡◌, ◌<◌, sym, ap, ◌∙◌, refl, arith, true, false}
use Rattle.std.specs.Prelude.{is_some}
use Rattle.std.specs.FinMap as map
use Rattle.session.specs.Kept.{items_left}
use Rattle.session.proofs.Kept.{present}
use Rattle.session.proofs.Steps.{closes-admitted, closes-old, closes-unknown}
use Rattle.session.proofs.session.Session.close.Goals as goal
use Rattle.session.proofs.session.Session.close.Goals.{else-contains-via-then-contains+else-end-self, else-contains-via-else-contains}

pub returns-then-end-self : goal.returns-then-end-self
returns-then-end-self c = λ g h represents only.
    let is_open : map.contains_key h.transactions c.args.xid ≡ true = sym (c.contains.ensures g h.transactions represents.transactions) ∙ c.if-contains.true in
    let o = present h.transactions c.args.xid is_open in
    record {
      represents = record { phase = represents.phase; here = represents.here; alone = represents.alone; transactions = represents.transactions; relations = represents.relations; position = represents.position; skip = represents.skip };
      cause = rw c.into.ensures (closes-old g h c.args.xid c.args.commit c.args.end o.0 o.1 (omega (arith, c.if-end-self.true, represents.position)));
    }

pub returns-in-None : goal.returns-in-None
returns-in-None c = λ g h represents only.
    let none = c.in-None.ensures g h.transactions represents.transactions in
    record {
      represents = record { phase = represents.phase; here = represents.here; alone = represents.alone; transactions = none.1; relations = represents.relations; position = represents.position; skip = represents.skip };
      cause = rw c.into-in-None.ensures (closes-unknown g h c.args.xid c.args.commit c.args.end none.0);
    }

pub returns-in-Some : goal.returns-in-Some
returns-in-Some c = λ g h represents only.
    let was = c.in-Some.ensures g h.transactions represents.transactions in
    let later : h.position < c.args.end = elim c.else-contains.branch [
      | else-contains-via-then-contains+else-end-self w ↦ omega (arith, w.if-end-self.false, represents.position)
      | else-contains-via-else-contains w ↦
          let closed : false ≡ map.contains_key h.transactions c.args.xid = sym w.if-contains.false ∙ c.contains.ensures g h.transactions represents.transactions in
          let open_is : map.contains_key h.transactions c.args.xid ≡ true = ap is_some was.1 in
          absurd cc
    ] in
    closes-admitted g c.args.self.now _ h c.args.xid c.args.commit c.args.end c.in-Some.way _ represents was only later refl refl refl refl
    (λ done xid info items. (sym xid, sym info, c.handed_out-items.ensures ∙ ap (λ b. items_left b c.in-Some.way) c.skips-is_skipped.ensures ∙ items))
