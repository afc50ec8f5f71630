use Rattle.live_tables.specs.ByHoldsLemmas.{by_holds}
use Rattle.live_tables.proofs.Stands.{on_ok}
use Rattle.live_tables.proofs.live_tables.Live.lay_open.Goals as goal

pub lay_by_holds-requires-clause-tied : goal.lay_by_holds-requires-clause-tied
lay_by_holds-requires-clause-tied c = let (w, tied) = c.requires.tied in (w, by_holds w c.args.self.now tied c.if-self.true)

pub returns-then-self : goal.returns-then-self
returns-then-self c =
    on_ok c.lay_by_holds.result _ _ c.lay_by_holds.ensures (λ laid w tied. laid w (by_holds w c.args.self.now tied c.if-self.true))
