use Rattle.std.proofs.Common.{◌≡◌, Some, subst}
use Rattle.std.specs.FinMap as finite
use Rattle.world.specs.Settled.{WaitsFor}
use Rattle.engine.specs.Engine.{Engine, world_in}
use Rattle.engine.proofs.store.Store.waiting_for.Goals as goal

pub returns-clause-free : goal.returns-clause-free
returns-clause-free c = λ none o at holder.
    subst (λ (e : Engine). finite.get e.world.opened c.args.xid ≡ Some o → ¬ (WaitsFor e.schema e.world c.args.xid o holder)) c.self.view_is
    (λ here. c.holder_of.ensures.free none (world_in c.self.inside) o c.self.invariant.tied here holder) at
