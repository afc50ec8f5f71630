use Rattle.table_parts.proofs.Running.{commits_runs}
use Rattle.std.proofs.Common.{◌∙◌}
use Rattle.std.proofs.Common.{subst}
use Rattle.engine.specs.Events.{opened_by}
use Rattle.table_parts.specs.Part.{Part, Commits, CommitsLine}
use Rattle.table_parts.proofs.Lifting.{commit_lifts, commit_line}
use Rattle.table_parts.proofs.part.Part.commit.Goals as goal

pub returns-clause-commits : goal.returns-clause-commits
returns-clause-commits c =
    subst (λ (p : Part). Commits p.store.schema p.number p.store.world c.args.t.number c.args.info c.commit.new.self.world) c.self.view_is
    (commit_lifts c.self.inside.store.schema c.self.inside.number c.self.inside.store.world c.commit.new.self.world c.args.t.number
    (opened_by c.args.t.list) c.commit.ensures.stood c.args.info c.commit.ensures.commits)

pub returns-clause-line : goal.returns-clause-line
returns-clause-line c =
    subst (λ (p : Part). CommitsLine p.store.schema p.number p.store.world c.args.t.number c.args.info c.commit.new.self.world) c.self.view_is
    (commit_line c.self.inside.store.schema c.self.inside.number c.self.inside.store.world c.commit.new.self.world c.args.t.number
    (opened_by c.args.t.list) c.commit.ensures.stood c.args.info c.commit.ensures.commits)

pub invariant_of-self : goal.invariant_of-self
invariant_of-self c = record {
  line = c.commit.ensures.line_told;
  runs =
      commits_runs c.self.inside.store.schema c.self.inside.store.world c.commit.new.self.world c.args.t.number (opened_by c.args.t.list) c.args.info c.commit.ensures.commits
      ∙ c.self.invariant.runs;
}
