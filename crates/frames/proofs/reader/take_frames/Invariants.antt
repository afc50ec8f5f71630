use Rattle.std.proofs.Common.{length}
use Rattle.frames.proofs.Taking.{Progress}
use Rattle.frames.proofs.reader.take_frames.Given as goal

-- the frames so far gave the items so far
abbrev pub invariant-loop-item : goal.invariant-loop-item
invariant-loop-item l = Progress l.initial.items.items l.items.items l.initial.unread.items l.unread.items

abbrev pub decreases-loop-item : goal.decreases-loop-item
decreases-loop-item l = length l.unread.items
