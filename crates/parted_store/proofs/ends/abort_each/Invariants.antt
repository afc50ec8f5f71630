use Rattle.parted_store.specs.EachPart.{Progress}
use Rattle.parted_store.specs.Ends.{AbortsShare, Takes}
use Rattle.parted_store.proofs.ends.abort_each.Given as goal

abbrev pub invariant-loop-i : goal.invariant-loop-i
invariant-loop-i l = Progress (Takes AbortsShare) l.initial.parts l.initial.shares.items l.parts l.shares.items l.i
