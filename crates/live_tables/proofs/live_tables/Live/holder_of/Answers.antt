use Rattle.live_tables.specs.ByHoldsLemmas.{by_holds}
use Rattle.live_tables.proofs.live_tables.Live.holder_of.Goals as goal

pub holder_by_holds-requires : goal.holder_by_holds-requires
holder_by_holds-requires c = let (w, tied) = c.requires.tied in record { tied = (w, by_holds w c.args.self.now tied c.if-self.true) }

pub returns-then-self-clause-free : goal.returns-then-self-clause-free
returns-then-self-clause-free c = λ none w o tied. c.holder_by_holds.ensures.free none w o (by_holds w c.args.self.now tied c.if-self.true)
