use Rattle.std.proofs.Common.{◌≡◌, sym, ◌∙◌, refl}
use Rattle.session.specs.declared.phase.Phase.TheVariants.{Outside}
use Rattle.session.specs.Table as table
use Rattle.session.proofs.Steps.{follows_outside, follows_same}
use Rattle.session.proofs.session.Session.stream_start.Goals as goal

pub returns-then-m : goal.returns-then-m
returns-then-m c = λ g h represents.
    let outside : h.phase ≡ Outside = sym represents.phase ∙ c.in-Outside.is in
    let first : table.streams g h c.args.m.now ≡ table.opens h c.args.m.now.xid (table.next_way g h) _ = rw c.if-m.true refl in
    follows_outside g _ h _ _ _ c.open.result outside (follows_same g _ h _ _ c.open.result first (c.open.ensures g h represents outside))

pub returns-else-m : goal.returns-else-m
returns-else-m c = λ g h represents.
    let outside : h.phase ≡ Outside = sym represents.phase ∙ c.in-Outside.is in
    let further : table.streams g h c.args.m.now ≡ table.goes_on h c.args.m.now.xid = rw c.if-m.false refl in
    follows_outside g _ h _ _ _ c.go_on.result outside (follows_same g _ h _ _ c.go_on.result further (c.go_on.ensures g h represents outside))
