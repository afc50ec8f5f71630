use Rattle.table_parts.proofs.Running.{back_runs}
use Rattle.std.proofs.Common.{sym, ◌∙◌}
use Rattle.std.proofs.Common.{subst}
use Rattle.engine.specs.Events.{opened_by}
use Rattle.world_parts.specs.Lines.{KeepsLine}
use Rattle.world_parts.specs.LineLemmas.{back_keeps}
use Rattle.table_parts.specs.Part.{Part, GoesBack}
use Rattle.table_parts.proofs.Lifting.{back_lifts}
use Rattle.table_parts.proofs.part.Part.back_to.Goals as goal

pub returns-clause-goes_back : goal.returns-clause-goes_back
returns-clause-goes_back c =
    subst (λ (p : Part). GoesBack p.number p.store.world c.args.t.now.number c.args.mark c.back_to.new.self.world) c.self.view_is
    (back_lifts c.self.inside.store.schema c.self.inside.number c.self.inside.store.world c.back_to.new.self.world c.args.t.now.number
    (opened_by c.args.t.now.list) c.back_to.ensures.stood c.args.mark c.back_to.ensures.goes_back)

pub returns-clause-line : goal.returns-clause-line
returns-clause-line c =
    subst (λ (p : Part). KeepsLine p.store.world c.back_to.new.self.world) c.self.view_is
    (back_keeps c.self.inside.store.world c.back_to.new.self.world c.args.t.now.number (opened_by c.args.t.now.list) c.args.mark
    c.back_to.ensures.goes_back)

pub invariant_of-self : goal.invariant_of-self
invariant_of-self c = record {
  line = c.self.invariant.line ∙ sym c.back_to.ensures.line;
  runs =
      back_runs c.self.inside.store.world c.back_to.new.self.world c.args.t.now.number (opened_by c.args.t.now.list) c.args.mark c.back_to.ensures.goes_back
      ∙ c.self.invariant.runs;
}
