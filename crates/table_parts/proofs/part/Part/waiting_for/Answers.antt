use Rattle.std.proofs.Common.{◌≡◌, Some, subst}
use Rattle.std.specs.FinMap as finite
use Rattle.world.specs.Settled.{WaitsFor}
use Rattle.table_parts.specs.Part.{Part}
use Rattle.table_parts.proofs.part.Part.waiting_for.Goals as goal

pub returns-clause-free : goal.returns-clause-free
returns-clause-free c = λ none o at holder.
    subst (λ (p : Part). finite.get p.store.world.opened c.args.xid ≡ Some o → ¬ (WaitsFor p.store.schema p.store.world c.args.xid o holder)) c.self.view_is
    (λ here. c.waiting_for.ensures.free none o here holder) at
