use Rattle.std.proofs.Common.{◌≡◌, length}
use Rattle.rows.specs.Run.{live}
use Rattle.rows.proofs.key_order.skip_struck.Given as goal

-- the keys passed over so far were struck
abbrev pub invariant-loop-rest : goal.invariant-loop-rest
invariant-loop-rest l = live l.rest ≡ live l.run

abbrev pub decreases-loop-rest : goal.decreases-loop-rest
decreases-loop-rest l = length l.rest
