use Rattle.live_tables.specs.StopLemmas.{FollowsFrom, IsSettledAt}
use Rattle.live_tables.proofs.live_tables.Live.is_settled.Given as goal

abbrev pub invariant-loop-xid : goal.invariant-loop-xid
invariant-loop-xid l = FollowsFrom (IsSettledAt l.self l.sent) l.xid-iterator l.self.transactions.entries
