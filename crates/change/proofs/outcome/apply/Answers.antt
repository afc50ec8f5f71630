use Rattle.std.proofs.Common.{sym, subst, ap, ◌∙◌}
use Rattle.model.specs.declared.change.Change.TheVariants.{Wipe}
use Rattle.model.specs.declared.change.Change.{Change}
use Rattle.model.specs.Footprint.{footprint}
use Rattle.indexes.specs.Content.{KeepsCells}
use Rattle.change.specs.Altered.{cells_altered}
use Rattle.change.specs.Applied.{IfDone}
use Rattle.change.proofs.outcome.apply.Goals as goal

pub returns-in-Put-clause-altered : goal.returns-in-Put-clause-altered
returns-in-Put-clause-altered c =
    subst (λ (d : Change). IfDone c.put.result (λ i. KeepsCells (cells_altered i) (footprint c.args.t.now.schema c.args.t.now.rows d))) (sym c.in-Put.is) c.put.ensures.altered

pub returns-in-Set-clause-altered : goal.returns-in-Set-clause-altered
returns-in-Set-clause-altered c =
    subst (λ (d : Change). IfDone c.set.result (λ i. KeepsCells (cells_altered i) (footprint c.args.t.now.schema c.args.t.now.rows d))) (sym c.in-Set.is) c.set.ensures.altered

pub returns-in-Remove-clause-altered : goal.returns-in-Remove-clause-altered
returns-in-Remove-clause-altered c =
    subst (λ (d : Change). IfDone c.remove.result (λ i. KeepsCells (cells_altered i) (footprint c.args.t.now.schema c.args.t.now.rows d))) (sym c.in-Remove.is) c.remove.ensures.altered

pub returns-in-Wipe-clause-altered : goal.returns-in-Wipe-clause-altered
returns-in-Wipe-clause-altered c =
    subst (λ (d : Change). IfDone c.wipe.result (λ i. KeepsCells (cells_altered i) (footprint c.args.t.now.schema c.args.t.now.rows d))) (ap Wipe c.ids.ensures ∙ sym c.in-Wipe.is) c.wipe.ensures.altered
