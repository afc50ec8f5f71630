use Rattle.std.proofs.Common.{sym, subst, Some}
use Rattle.live_tables.specs.declared.answers.Stop.{Stop}
use Rattle.live_tables.specs.Answers.{stop_of, TellsWhatStopped}
use Rattle.engine.specs.Engine.{Engine, world_in}
use Rattle.engine.specs.StoreLemmas.{stop_there}
use Rattle.engine.proofs.store.Store.stop.Goals as goal

pub returns-in-Some : goal.returns-in-Some
returns-in-Some c =
    subst (λ (stop : Stop). TellsWhatStopped (Some stop) c.args.self.now.world.stopped) (sym c.stop_of.ensures)
    (subst (λ (e : Engine). TellsWhatStopped (Some (stop_of c.in-Some.stopped)) e.world.stopped) c.self.view_is
    (stop_there (world_in c.self.inside) c.self.inside.live c.self.invariant.tied c.in-Some.stopped c.in-Some.is))
