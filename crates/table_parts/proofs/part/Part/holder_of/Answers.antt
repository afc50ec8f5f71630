use Rattle.std.proofs.Common.{ℕ, subst}
use Rattle.world.specs.Settled.{WaitsFor}
use Rattle.engine.specs.Events.{opened_by}
use Rattle.table_parts.specs.Part.{Part}
use Rattle.table_parts.proofs.part.Part.holder_of.Goals as goal

pub returns-clause-free : goal.returns-clause-free
returns-clause-free c = λ none holder.
    subst (λ (p : Part). ¬ (WaitsFor p.store.schema p.store.world c.args.t.now.number (opened_by c.args.t.now.list) holder)) c.self.view_is
    (c.holder_of.ensures.free none holder)
