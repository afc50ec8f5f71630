use Rattle.std.proofs.Common.{◌≡◌, Some, sym, subst}
use Rattle.std.specs.FinMap as finite
use Rattle.engine.specs.Engine.{Engine, world_in}
use Rattle.engine.proofs.store.Store.done_by.Goals as goal

pub returns : goal.returns
returns c = λ o at.
    c.done_by.ensures (world_in c.self.inside) o c.self.invariant.tied
    (subst (λ (e : Engine). finite.get e.world.opened c.args.xid ≡ Some o) (sym c.self.view_is) at)
