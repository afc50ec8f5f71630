use Rattle.std.proofs.Common.{◌≡◌, length}
use Rattle.catalog.specs.Faults.{repeats}
use Rattle.catalog.proofs.checks.repeats.Given as goal

abbrev pub invariant-loop-first : goal.invariant-loop-first
invariant-loop-first g l = repeats g.T.Named.same l.items ≡ repeats g.T.Named.same l.rest

abbrev pub decreases-loop-first : goal.decreases-loop-first
decreases-loop-first g l = length l.rest
