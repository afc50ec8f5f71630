use Rattle.std.proofs.Common.{sym}
use Rattle.live_tables.specs.ByHoldsLemmas.{never_absent}
use Rattle.live_tables.proofs.live_tables.Live.done_by.Goals as goal

pub returns-in-Some : goal.returns-in-Some
returns-in-Some c = λ w o tied is. (tied.beside c.args.xid o c.in-Some.transaction.now is (sym c.in-Some.ensures.value)).done

pub returns-in-None : goal.returns-in-None
returns-in-None c = λ w o tied is. absurd (never_absent c.args.self.now c.args.xid (w, o, tied, is) c.in-None.ensures.value)
