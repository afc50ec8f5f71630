use Rattle.std.proofs.Common.{◌≡◌, Some, sym, subst}
use Rattle.std.specs.FinMap as finite
use Rattle.table_parts.specs.Part.{Part}
use Rattle.table_parts.proofs.part.Part.done_by.Goals as goal

pub returns : goal.returns
returns c = λ o at.
    c.done_by.ensures o (subst (λ (p : Part). finite.get p.store.world.opened c.args.xid ≡ Some o) (sym c.self.view_is) at)
