use Rattle.std.proofs.Common.{sym, true≢false, ◌∙◌}
use Rattle.world.specs.Steps.{aborted_with}
use Rattle.live_tables.specs.ByHoldsLemmas.{by_holds, from_holds}
use Rattle.live_tables.proofs.live_tables.Live.abort.Goals as goal

pub abort_by_holds-requires : goal.abort_by_holds-requires
abort_by_holds-requires c = let (w, o, tied, is) = c.requires in (w, o, by_holds w c.args.self.now tied c.if-self.true, is)

pub returns-then-self-clause-tied : goal.returns-then-self-clause-tied
returns-then-self-clause-tied c = λ w o tied is.
    from_holds (aborted_with w c.args.xid) c.abort_by_holds.new.self (c.abort_by_holds.ensures.tied w o (by_holds w c.args.self.now tied c.if-self.true) is)
    (c.abort_by_holds.ensures.made ∙ c.if-self.true)

pub returns-then-self-clause-vacated : goal.returns-then-self-clause-vacated
returns-then-self-clause-vacated c = λ r alone at. absurd (true≢false (sym c.if-self.true ∙ alone))

pub returns-clause-released : goal.returns-clause-released
returns-clause-released c = λ made. absurd (true≢false (sym made ∙ c.if-self.false))
