use Rattle.std.proofs.Common.{◌≡◌, ◌+◌, ◌++◌, List, length}
use Rattle.world.specs.World.{Entry as Told}
use Rattle.mirror_writer.proofs.commit_writer.CommitWriter.write_all.Given as goal

-- some of the commits were kept, and these are left
abbrev pub invariant-loop-rest : goal.invariant-loop-rest
invariant-loop-rest g l =
    (done : List Told) × (l.commits ≡ done ++ l.rest)
    × ((before : List Told) → g.K.Keep.has_kept l.fn.self.keep before → g.K.Keep.has_kept l.self.keep (before ++ done))
    × (l.self.commits ≡ l.fn.self.commits + length done)
    × (l.self.stop ≡ l.fn.self.stop)

abbrev pub decreases-loop-rest : goal.decreases-loop-rest
decreases-loop-rest g l = length l.rest
