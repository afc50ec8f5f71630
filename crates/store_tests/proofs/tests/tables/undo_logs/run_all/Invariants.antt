use Rattle.undo.specs.Undo.{CanUndo}
use Rattle.store_tests.proofs.tests.tables.undo_logs.run_all.Given as goal

abbrev pub invariant-loop-call : goal.invariant-loop-call
invariant-loop-call g l = CanUndo l.t l.log.inverses
