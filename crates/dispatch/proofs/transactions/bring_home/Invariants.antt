use Rattle.std.proofs.Common.{◌≡◌, take}
use Rattle.std.specs.Prelude.{map, All}
use Rattle.dispatch.specs.Handle.{IsHome}
use Rattle.dispatch.specs.Standing.{goes_by}
use Rattle.dispatch.proofs.transactions.bring_home.Given as goal

-- the workers so far have theirs
abbrev pub invariant-loop-worker-2 : goal.invariant-loop-worker-2
invariant-loop-worker-2 g l = (map goes_by l.worker-items ≡ map goes_by l.initial.worker-items) × All IsHome (take l.worker-index l.worker-items)
