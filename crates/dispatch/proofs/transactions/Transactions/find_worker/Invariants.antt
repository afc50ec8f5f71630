use Rattle.std.proofs.Common.{◌≡◌, [], take}
use Rattle.std.specs.Prelude.{map}
use Rattle.dispatch.specs.Standing.{items_by, goes_by}
use Rattle.dispatch.proofs.transactions.Transactions.find_worker.Given as goal

-- it goes by none of the workers so far
abbrev pub invariant-loop-index : goal.invariant-loop-index
invariant-loop-index g l = items_by l.xid (map goes_by (take l.index l.worker-items)) ≡ []
