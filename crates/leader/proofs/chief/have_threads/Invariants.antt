use Rattle.std.proofs.Common.{take}
use Rattle.std.specs.Prelude.{All}
use Rattle.leader.specs.Onlookers.{HasThread}
use Rattle.leader.proofs.chief.have_threads.Given as goal

-- those so far have
abbrev pub invariant-loop-onlooker : goal.invariant-loop-onlooker
invariant-loop-onlooker g l = All HasThread (take l.onlooker-index l.onlookers)
