use Rattle.table_parts.proofs.Running.{opens_runs}
use Rattle.std.proofs.Common.{◌∙◌}
use Rattle.std.proofs.Common.{subst}
use Rattle.live_tables.specs.Answers.{told_call}
use Rattle.world_parts.specs.Lines.{KeepsLine}
use Rattle.world_parts.specs.LineLemmas.{opens_keeps}
use Rattle.table_parts.specs.Part.{Part, Opens}
use Rattle.table_parts.proofs.Lifting.{opened_lifts}
use Rattle.table_parts.proofs.part.Part.open.Goals as goal

pub returns-clause-opens : goal.returns-clause-opens
returns-clause-opens c =
    subst (λ (p : Part). Opens p.number p.store.world c.open.new.self.world) c.self.view_is
    (opened_lifts c.self.inside.number c.self.inside.store.world c.open.new.self.world c.args.xid (told_call c.open.result) c.open.ensures.opens)

pub returns-clause-line : goal.returns-clause-line
returns-clause-line c =
    subst (λ (p : Part). KeepsLine p.store.world c.open.new.self.world) c.self.view_is
    (opens_keeps c.self.inside.store.world c.open.new.self.world c.args.xid (told_call c.open.result) c.open.ensures.opens)

pub invariant_of-self : goal.invariant_of-self
invariant_of-self c = record {
  line = c.open.ensures.line;
  runs = opens_runs c.self.inside.store.world c.open.new.self.world c.args.xid (told_call c.open.result) c.open.ensures.opens ∙ c.self.invariant.runs;
}
