use Rattle.worker.specs.Working.{GoesOn}
use Rattle.worker.proofs.progress.work_on.Given as goal

abbrev pub invariant-loop : goal.invariant-loop
invariant-loop g l = GoesOn l.initial.job l.job
