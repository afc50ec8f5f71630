use Rattle.live_tables.specs.ByHoldsLemmas.{by_holds}
use Rattle.live_tables.proofs.live_tables.Live.committed.Goals as goal

pub committed_by_holds-requires-clause-tied : goal.committed_by_holds-requires-clause-tied
committed_by_holds-requires-clause-tied c = let (w, tied) = c.requires.tied in (w, by_holds w c.args.self.now tied c.if-self.true)

pub returns-then-self : goal.returns-then-self
returns-then-self c = λ w tied. c.committed_by_holds.ensures w (by_holds w c.args.self.now tied c.if-self.true)
