use Rattle.std.proofs.Common.{◌≡◌, length}
use Rattle.store_tests.proofs.tests.threads.positions.publish_all.Given as goal

abbrev pub invariant-loop-commits : goal.invariant-loop-commits
invariant-loop-commits g l =
    (l.publisher.origin ≡ l.initial.publisher.origin) × (length l.publisher.ends ≡ l.commits)
