use Rattle.live_tables.specs.StopLemmas.{tied_stopped}
use Rattle.live_tables.proofs.live_tables.Live.stop_by_holds.Goals as goal

pub returns-clause-tied : goal.returns-clause-tied
returns-clause-tied c = λ w tied. tied_stopped w c.args.self.now tied c.args.sent.now c.args.waiter c.in-Some.holder (c.in-Some.ensures w tied)
