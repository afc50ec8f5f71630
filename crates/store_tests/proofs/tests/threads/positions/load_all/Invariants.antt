use Rattle.std.proofs.Common.{◌≡◌}
use Rattle.model.specs.Beginning.{Begins}
use Rattle.store_tests.proofs.tests.threads.positions.load_all.Given as goal

abbrev pub invariant-loop : goal.invariant-loop
invariant-loop g l =
    (l.loader.origin ≡ l.initial.loader.origin) × Begins l.initial.loader.ends l.loader.ends
