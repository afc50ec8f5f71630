use Rattle.table_parts.proofs.Running.{tries_runs, never_stopped}
use Rattle.world.specs.World.{World}
use Rattle.std.proofs.Common.{ap, ◌∙◌}
use Rattle.std.proofs.Common.{sym, subst}
use Rattle.engine.specs.Events.{opened_by}
use Rattle.world_parts.specs.ByTable.{IsIn}
use Rattle.world_parts.specs.Lines.{KeepsLine}
use Rattle.table_parts.specs.Part.{Part, TriesAlone}
use Rattle.table_parts.proofs.Lifting.{try_lifts, try_keeps}
use Rattle.table_parts.proofs.part.Part.try_change.Goals as goal

pub returns-clause-tries : goal.returns-clause-tries
returns-clause-tries c =
    subst (λ (p : Part). TriesAlone p.store.schema p.number p.store.world c.args.t.now.number c.args.mark c.args.c.now c.try_change.result c.try_change.new.self.world) c.self.view_is
    (try_lifts c.self.inside.store.schema c.self.inside.number c.self.inside.store.world c.try_change.new.self.world c.args.t.now.number
    (opened_by c.args.t.now.list) c.try_change.ensures.stood c.args.mark c.args.c.now (subst (λ (p : Part). IsIn p.number c.args.c.now) (sym c.self.view_is) c.requires.its)
    c.try_change.result c.try_change.ensures.tries)

pub returns-clause-line : goal.returns-clause-line
returns-clause-line c =
    subst (λ (p : Part). KeepsLine p.store.world c.try_change.new.self.world) c.self.view_is
    (try_keeps c.self.inside.store.schema c.self.inside.number c.self.inside.store.world c.try_change.new.self.world c.args.t.now.number
    (opened_by c.args.t.now.list) c.try_change.ensures.stood c.args.mark c.args.c.now c.try_change.result c.try_change.ensures.tries)

pub invariant_of-self : goal.invariant_of-self
invariant_of-self c = record {
  line = c.self.invariant.line ∙ sym c.try_change.ensures.line;
  runs =
      ap (λ (w : World). w.stopped) c.try_change.ensures.world
      ∙ tries_runs c.self.inside.store.world c.args.t.now.number (opened_by c.args.t.now.list) c.args.mark c.args.c.now c.try_change.result ∙ c.self.invariant.runs;
}

pub returns-clause-fault : goal.returns-clause-fault
returns-clause-fault c =
    never_stopped c.self.inside.store.schema c.self.inside.store.world c.try_change.new.self.world c.args.t.now.number (opened_by c.args.t.now.list) c.args.mark c.args.c.now
    c.try_change.result c.self.invariant.runs c.try_change.ensures.cause c.try_change.ensures.tries
