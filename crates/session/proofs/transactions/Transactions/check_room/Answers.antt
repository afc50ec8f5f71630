use Rattle.std.proofs.Common.{◌≡◌, sym, ◌∙◌, arith, true, false}
use Rattle.std.specs.Prelude.{nat_le}
use Rattle.std.specs.FinMap as map
use Rattle.std.proofs.lemmas.Bool.{le-leb, lt-leb}
use Rattle.model.specs.Limits.{most_open}
use Rattle.session.proofs.transactions.Transactions.check_room.Goals as goal

pub returns-then-contains : goal.returns-then-contains
returns-then-contains c = λ g m kept.
    let is_open : map.contains_key m c.args.xid ≡ true = sym (c.contains.ensures g m kept) ∙ c.if-contains.true in
    rw is_open

pub returns-then-len-ge-MOST_OPEN : goal.returns-then-len-ge-MOST_OPEN
returns-then-len-ge-MOST_OPEN c = λ g m kept.
    let closed : map.contains_key m c.args.xid ≡ false = sym (c.contains.ensures g m kept) ∙ c.if-contains.false in
    let full : nat_le most_open (map.len m) ≡ true = le-leb most_open (map.len m) (omega (arith, c.if-len-ge-MOST_OPEN.true, c.len.ensures.len, kept.count)) in
    rw (closed, full)

pub returns-else-len-ge-MOST_OPEN : goal.returns-else-len-ge-MOST_OPEN
returns-else-len-ge-MOST_OPEN c = λ g m kept.
    let closed : map.contains_key m c.args.xid ≡ false = sym (c.contains.ensures g m kept) ∙ c.if-contains.false in
    let free : nat_le most_open (map.len m) ≡ false = lt-leb most_open (map.len m) (omega (arith, c.if-len-ge-MOST_OPEN.false, c.len.ensures.len, kept.count)) in
    rw (closed, free)
