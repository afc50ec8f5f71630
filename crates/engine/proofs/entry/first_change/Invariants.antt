use Rattle.std.proofs.Common.{◌≡◌, length}
use Rattle.model.specs.Survivors.{changes_of}
use Rattle.engine.proofs.entry.first_change.Given as goal

abbrev pub invariant-loop-left : goal.invariant-loop-left
invariant-loop-left l = changes_of l.left ≡ changes_of l.fn.items

abbrev pub decreases-loop-left : goal.decreases-loop-left
decreases-loop-left l = length l.left
