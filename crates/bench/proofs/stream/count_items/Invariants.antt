use Rattle.std.proofs.Common.{length}
use Rattle.bench.proofs.stream.count_items.Given as goal

abbrev pub decreases-loop-item : goal.decreases-loop-item
decreases-loop-item l = length l.frames.items
