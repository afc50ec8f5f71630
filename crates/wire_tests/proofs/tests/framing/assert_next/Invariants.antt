use Rattle.std.proofs.Common.{length}
use Rattle.wire_tests.proofs.tests.framing.assert_next.Given as goal

abbrev pub decreases-loop-item : goal.decreases-loop-item
decreases-loop-item l = length l.frames.items
