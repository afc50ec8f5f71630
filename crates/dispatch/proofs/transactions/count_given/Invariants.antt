use Rattle.std.specs.Prelude.{map}
use Rattle.dispatch.specs.Handle.{AreCounted}
use Rattle.dispatch.specs.Standing.{goes_by}
use Rattle.dispatch.proofs.transactions.count_given.Given as goal

-- those of the workers so far are told
abbrev pub invariant-loop-worker : goal.invariant-loop-worker
invariant-loop-worker g l = AreCounted (map goes_by l.workers) l.given.items
