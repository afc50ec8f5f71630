use Rattle.std.proofs.Common.{ℕ, zero, suc, List, [], ◌∷◌, drop}
use Rattle.indexes.specs.Content.{Content}
use Rattle.change.specs.declared.inverse.Inverse.{Inverse}
use Rattle.undo.specs.Undo.{CanUndo}
use Rattle.store_tests.proofs.tests.tables.undo_logs.undo_to.Goals as goal

later_can : (t : Content) (is : List Inverse) (n : ℕ) → CanUndo t is → CanUndo t (drop n is)
later_can t is zero can = can
later_can t [] (suc n) can = tt
later_can t (i ∷ is) (suc n) can = later_can t is n can.0

pub undo_to-requires-clause-can : goal.undo_to-requires-clause-can
undo_to-requires-clause-can c = later_can c.args.t.now c.args.log.now.inverses c.args.mark c.requires.can
