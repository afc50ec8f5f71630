use Rattle.std.proofs.Common.{◌≡◌, sym, ◌∙◌}
use Rattle.session.specs.declared.phase.Phase.TheVariants.{Outside}
use Rattle.session.proofs.Steps.{follows_outside, nothing_begun}
use Rattle.session.proofs.session.Session.stream_commit.Goals as goal

pub returns-in-Outside : goal.returns-in-Outside
returns-in-Outside c = λ g h represents.
    let outside : h.phase ≡ Outside = sym represents.phase ∙ c.in-Outside.is in
    follows_outside g _ h _ _ _ _ outside (c.close.ensures g h represents (nothing_begun h.phase c.args.m.now.xid outside))
