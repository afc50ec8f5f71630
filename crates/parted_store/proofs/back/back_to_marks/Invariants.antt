use Rattle.std.proofs.Common.{◌∷◌, take}
use Rattle.savepoint.specs.Savepoints.{subs_of}
use Rattle.parted_store.specs.Back.{IsBackAt}
use Rattle.parted_store.proofs.back.back_to_marks.Given as goal

-- the share is rolled back to the marks so far
abbrev pub invariant-loop-mark : goal.invariant-loop-mark
invariant-loop-mark l = IsBackAt l.fn.part l.fn.share (l.sub ∷ subs_of (take l.mark-index l.dropped)) l.part l.share
