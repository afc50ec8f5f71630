use Rattle.std.proofs.Common.{◌∷◌, sym, subst, Contains}
use Rattle.model.specs.declared.cell.Cell.{Cell}
use Rattle.model.specs.declared.cell.Cell.TheVariants.{Row}
use Rattle.model.specs.Cells.{cells_of}
use Rattle.change.specs.declared.inverse.Inverse.{Inverse}
use Rattle.change.specs.declared.inverse.MovedKeys.{MovedKeys}
use Rattle.undo.specs.Undo.{cells_settled}
use Rattle.undo.proofs.Steps.{stays}
use Rattle.undo.proofs.log.settle_one.Goals as goal

pub returns-in-Put-clause-others : goal.returns-in-Put-clause-others
returns-in-Put-clause-others c =
    subst (λ (i : Inverse). (cell : Cell) → ¬ Contains (cells_settled c.args.t.now.schema i) cell → Contains c.args.t.now.room cell → Contains c.settle.new.self.room cell)
    (sym c.in-Put.is)
    (stays c.args.t.now.room c.settle.new.self.room (cells_of c.args.t.now.schema c.in-Put.table c.in-Put.row) (Row c.in-Put.table c.in-Put.key) c.settle.ensures.others)

pub returns-in-Replace-clause-others : goal.returns-in-Replace-clause-others
returns-in-Replace-clause-others c =
    subst (λ (i : Inverse). (cell : Cell) → ¬ Contains (cells_settled c.args.t.now.schema i) cell → Contains c.args.t.now.room cell → Contains c.settle-in-Replace.new.self.room cell)
    (sym c.in-Replace.is)
    (stays c.args.t.now.room c.settle-in-Replace.new.self.room (cells_of c.args.t.now.schema c.in-Replace.table c.in-Replace.row) (Row c.in-Replace.table c.in-Replace.key) c.settle-in-Replace.ensures.others)

pub returns-in-Move-clause-others : goal.returns-in-Move-clause-others
returns-in-Move-clause-others c =
    subst (λ (i : Inverse). (cell : Cell) → ¬ Contains (cells_settled c.args.t.now.schema i) cell → Contains c.args.t.now.room cell → Contains c.settle-in-Move.new.self.room cell)
    (sym c.in-Move.is)
    (subst (λ (k : MovedKeys). (cell : Cell) → ¬ Contains (Row c.in-Move.table k.key ∷ cells_of c.args.t.now.schema c.in-Move.table c.in-Move.row) cell → Contains c.args.t.now.room cell → Contains c.settle-in-Move.new.self.room cell)
    c.deref.ensures
    (stays c.args.t.now.room c.settle-in-Move.new.self.room (cells_of c.args.t.now.schema c.in-Move.table c.in-Move.row) (Row c.in-Move.table c.deref.result.now.key) c.settle-in-Move.ensures.others))
