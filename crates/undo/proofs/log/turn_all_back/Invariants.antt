use Rattle.undo.proofs.Turning.{AreTurnedPast}
use Rattle.undo.proofs.log.turn_all_back.Given as goal

-- those past the ones that are left were put back
abbrev pub invariant-loop-left : goal.invariant-loop-left
invariant-loop-left l = AreTurnedPast l.fn.t l.t l.fn.inverses.items l.inverses.items l.left

abbrev pub decreases-loop-left : goal.decreases-loop-left
decreases-loop-left l = l.left
