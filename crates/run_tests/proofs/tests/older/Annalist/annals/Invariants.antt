use Rattle.std.proofs.Common.{◌≡◌}
use Rattle.run_tests.proofs.tests.older.Annalist.annals.Given as goal

abbrev pub invariant-loop-number : goal.invariant-loop-number
invariant-loop-number g l = l.reader.published ≡ l.initial.reader.published
