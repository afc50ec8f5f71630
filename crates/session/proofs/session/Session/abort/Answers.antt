use Rattle.std.proofs.Common.{◌≡◌, ◌≢◌, sym, ap, ◌∙◌, refl, true, false, Some, None}
use Rattle.std.specs.Prelude.{Ok}
use Rattle.model.specs.declared.item.Item.TheVariants.{BackTo}
use Rattle.session.specs.Kept.{is_spool, is_spooled}
use Rattle.session.proofs.Kept.{present, absent, is_spool-keeping}
use Rattle.session.proofs.Items.{aborts-unknown, drops-admitted, step_dropped, aborts-back, gives-admitted, item_back-kept, item_back-free, none_direct}
use Rattle.session.proofs.Steps.{none_begun}
use Rattle.session.proofs.session.Session.abort.Goals as goal

pub returns-in_default : goal.returns-in_default
returns-in_default c = λ g h represents outside.
    let none = c.in_default.ensures g h.transactions represents.transactions in
    aborts-unknown g _ h c.args.m.now (record { phase = represents.phase; here = represents.here; alone = represents.alone; transactions = none.1; relations = represents.relations; position = represents.position; skip = represents.skip }) none.0

pub returns-then-is_spooled : goal.returns-then-is_spooled
returns-then-is_spooled c = λ g h represents outside.
    let was = c.in-Some.ensures g h.transactions represents.transactions in
    let spools : is_spooled was.0.way ≡ true = sym (ap is_spool was.2 ∙ is_spool-keeping c.args.m.now.xid was.0.items was.0.way) ∙ sym c.is_spooled.ensures ∙ c.if-is_spooled.true in
    drops-admitted g c.args.self.now _ h c.args.m.now was.0 _ represents outside was.1 c.if-m.true was.3 refl refl refl refl (sym (ap (step_dropped c.args.m.now.xid) spools))

pub returns-then-m : goal.returns-then-m
returns-then-m c = λ g h represents outside.
    let was = c.in-Some.ensures g h.transactions represents.transactions in
    let spools : is_spooled was.0.way ≡ false = sym (ap is_spool was.2 ∙ is_spool-keeping c.args.m.now.xid was.0.items was.0.way) ∙ sym c.is_spooled.ensures ∙ c.if-is_spooled.false in
    drops-admitted g c.args.self.now _ h c.args.m.now was.0 _ represents outside was.1 c.if-m.true was.3 refl refl refl refl (sym (ap (step_dropped c.args.m.now.xid) spools))

pub returns-then-not-contains : goal.returns-then-not-contains
returns-then-not-contains c = λ g h represents outside.
    let none = absent h.transactions c.args.m.now.xid (sym (c.contains.ensures g h.transactions represents.transactions) ∙ c.if-not-contains.true) in
    aborts-unknown g _ h c.args.m.now (record { phase = represents.phase; here = represents.here; alone = represents.alone; transactions = represents.transactions; relations = represents.relations; position = represents.position; skip = represents.skip }) none

pub returns-then-roll_back : goal.returns-then-roll_back
returns-then-roll_back c = λ g h represents outside.
    let m = c.args.m.now in
    let o = present h.transactions m.xid (sym (c.contains.ensures g h.transactions represents.transactions) ∙ c.if-not-contains.false) in
    let part : m.subtransaction ≢ m.xid = c.if-m.false in
    let back = c.roll_back.ensures g h.transactions o.0 represents.transactions o.1 part in
    gives-admitted g c.args.self.now _ h m.xid o.0 (BackTo m.subtransaction) 0 None _ _ represents o.1 (ap Ok (aborts-back h m o.0 o.1 part)) (item_back-kept o.0.way (BackTo m.subtransaction) (sym back.0 ∙ c.if-roll_back.true)) back.1 tt (λ direct. absurd (none_direct h.phase h.transactions m.xid o.0 (none_begun h.phase outside) represents.alone o.1 direct)) refl refl refl refl refl

pub returns : goal.returns
returns c = λ g h represents outside.
    let m = c.args.m.now in
    let o = present h.transactions m.xid (sym (c.contains.ensures g h.transactions represents.transactions) ∙ c.if-not-contains.false) in
    let part : m.subtransaction ≢ m.xid = c.if-m.false in
    let back = c.roll_back.ensures g h.transactions o.0 represents.transactions o.1 part in
    gives-admitted g c.args.self.now _ h m.xid o.0 (BackTo m.subtransaction) 0 (Some (BackTo m.subtransaction)) _ _ represents o.1 (ap Ok (aborts-back h m o.0 o.1 part)) (item_back-free o.0.way (BackTo m.subtransaction) (sym back.0 ∙ c.if-roll_back.false)) back.1 tt (λ direct. absurd (none_direct h.phase h.transactions m.xid o.0 (none_begun h.phase outside) represents.alone o.1 direct)) refl refl refl refl refl
