use Rattle.std.proofs.Common.{◌≡◌, length}
use Rattle.leader.proofs.threads.open_gates.Given as goal

-- one for each so far
abbrev pub invariant-loop : goal.invariant-loop
invariant-loop l = length l.gates.items ≡ l.counter
