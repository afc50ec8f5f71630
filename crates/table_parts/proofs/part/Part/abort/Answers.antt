use Rattle.table_parts.proofs.Running.{aborts_runs}
use Rattle.std.proofs.Common.{◌∙◌}
use Rattle.std.proofs.Common.{subst}
use Rattle.world_parts.specs.Lines.{KeepsLine}
use Rattle.world_parts.specs.LineLemmas.{aborts_keeps}
use Rattle.table_parts.specs.Part.{Part, Aborts}
use Rattle.table_parts.proofs.Lifting.{abort_lifts}
use Rattle.table_parts.proofs.part.Part.abort.Goals as goal

pub returns-clause-aborts : goal.returns-clause-aborts
returns-clause-aborts c =
    subst (λ (p : Part). Aborts p.number p.store.world c.args.t.number c.abort.new.self.world) c.self.view_is
    (abort_lifts c.self.inside.number c.self.inside.store.world c.abort.new.self.world c.args.t.number c.abort.ensures.aborts)

pub returns-clause-line : goal.returns-clause-line
returns-clause-line c =
    subst (λ (p : Part). KeepsLine p.store.world c.abort.new.self.world) c.self.view_is
    (aborts_keeps c.self.inside.store.world c.abort.new.self.world c.args.t.number c.abort.ensures.aborts)

pub invariant_of-self : goal.invariant_of-self
invariant_of-self c = record {
  line = c.abort.ensures.line_told;
  runs = aborts_runs c.self.inside.store.world c.abort.new.self.world c.args.t.number c.abort.ensures.aborts ∙ c.self.invariant.runs;
}
