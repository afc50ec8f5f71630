use Rattle.std.proofs.Common.{length}
use Rattle.bench.proofs.stream.pull.Given as goal

abbrev pub decreases-pulls : goal.decreases-pulls
decreases-pulls l = length l.source.unread.now
