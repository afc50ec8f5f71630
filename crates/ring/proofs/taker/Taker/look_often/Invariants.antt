use Rattle.ring.specs.Ends.{Waited}
use Rattle.ring.proofs.taker.Taker.look_often.Given as goal

abbrev pub invariant-loop : goal.invariant-loop
invariant-loop g l = Waited l.initial.self l.self
