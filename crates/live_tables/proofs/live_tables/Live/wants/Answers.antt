use Rattle.std.proofs.Common.{ap, is_some, sym, ◌∙◌}
use Rattle.live_tables.specs.ByHoldsLemmas.{never_absent}
use Rattle.live_tables.proofs.live_tables.Live.wants.Goals as goal

pub returns-in-Some : goal.returns-in-Some
returns-in-Some c = λ w o tied is.
    c.is_some.ensures ∙ ap is_some (tied.beside c.args.xid o c.in-Some.transaction.now is (sym c.in-Some.ensures.value)).wants

pub returns-in-None : goal.returns-in-None
returns-in-None c = λ w o tied is.
    absurd (never_absent c.args.self.now c.args.xid (w, o, tied, is) c.in-None.ensures.value)
