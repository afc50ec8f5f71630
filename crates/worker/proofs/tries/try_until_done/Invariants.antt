use Rattle.worker.specs.WorkingLemmas.{IsWaiting}
use Rattle.worker.proofs.tries.try_until_done.Given as goal

abbrev pub invariant-loop : goal.invariant-loop
invariant-loop g l = IsWaiting l.fn.ticket l.ticket l.fn.taker l.taker
