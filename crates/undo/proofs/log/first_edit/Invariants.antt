use Rattle.std.proofs.Common.{◌≡◌, drop, map}
use Rattle.std.specs.FinMap.{get}
use Rattle.change.specs.Edits.{laid_together}
use Rattle.change.specs.Inverse.{edits_of}
use Rattle.undo.proofs.log.first_edit.Given as goal

-- none so far edits the place, so those that are left decide
abbrev pub invariant-loop-inverse : goal.invariant-loop-inverse
invariant-loop-inverse l =
    get (laid_together (map edits_of (drop l.inverse-index l.inverses))) (l.table, l.key) ≡ get (laid_together (map edits_of l.inverses)) (l.table, l.key)
