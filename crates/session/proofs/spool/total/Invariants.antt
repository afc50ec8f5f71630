use Rattle.std.proofs.Common.{◌≡◌, ◌<◌, ◌^◌, take, sum}
use Rattle.session.proofs.spool.total.Given as goal

-- Where all of the sizes fit, the total is that of the sizes so far.
abbrev pub invariant-loop-size : goal.invariant-loop-size
invariant-loop-size l = sum l.sizes < 2 ^ 64 → l.total ≡ sum (take l.size-index l.sizes)
