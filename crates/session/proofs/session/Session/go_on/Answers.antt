use Rattle.std.proofs.Common.{◌≡◌, sym, ◌∙◌, refl, false}
use Rattle.std.specs.FinMap as map
use Rattle.session.proofs.Items.{goes_on-admitted}
use Rattle.session.proofs.session.Session.go_on.Goals as goal

pub returns-then-not-contains : goal.returns-then-not-contains
returns-then-not-contains c = λ g h represents outside.
    let closed : map.contains_key h.transactions c.args.xid ≡ false = sym (c.contains.ensures g h.transactions represents.transactions) ∙ c.if-not-contains.true in
    record {
      represents = record { phase = represents.phase; here = represents.here; alone = represents.alone; transactions = represents.transactions; relations = represents.relations; position = represents.position; skip = represents.skip };
      cause = rw c.into.ensures (rw closed refl);
    }

pub returns : goal.returns
returns c = λ g h represents outside.
    goes_on-admitted g c.args.self.now _ h c.args.xid represents outside (sym (c.contains.ensures g h.transactions represents.transactions) ∙ c.if-not-contains.false) refl refl refl refl refl
