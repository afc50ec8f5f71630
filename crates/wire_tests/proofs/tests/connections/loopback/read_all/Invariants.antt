use Rattle.std.proofs.Common.{length}
use Rattle.wire_tests.proofs.tests.connections.loopback.read_all.Given as goal

abbrev pub decreases-loop-count : goal.decreases-loop-count
decreases-loop-count g l = length l.frames.items
