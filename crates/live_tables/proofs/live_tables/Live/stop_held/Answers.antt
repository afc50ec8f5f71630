use Rattle.std.proofs.Common.{◌∙◌}
use Rattle.live_tables.specs.ByHoldsLemmas.{by_holds, from_holds}
use Rattle.live_tables.specs.LoneLemmas.{lone_not_stuck}
use Rattle.live_tables.proofs.live_tables.Live.stop_held.Goals as goal

pub stop_by_holds-requires : goal.stop_by_holds-requires
stop_by_holds-requires c = let (w, tied) = c.requires.tied in record { tied = (w, by_holds w c.args.self.now tied c.if-self.true) }

pub returns-then-self-clause-stops : goal.returns-then-self-clause-stops
returns-then-self-clause-stops c = λ w tied. c.stop_by_holds.ensures.stops w (by_holds w c.args.self.now tied c.if-self.true)

pub returns-then-self-clause-tied : goal.returns-then-self-clause-tied
returns-then-self-clause-tied c = λ w tied.
    from_holds _ c.stop_by_holds.new.self (c.stop_by_holds.ensures.tied w (by_holds w c.args.self.now tied c.if-self.true)) (c.stop_by_holds.ensures.made ∙ c.if-self.true)

pub returns-clause-stops : goal.returns-clause-stops
returns-clause-stops c = λ w tied. lone_not_stuck w c.args.self.now tied c.if-self.false c.args.waiter c.args.sent.now
