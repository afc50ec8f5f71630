use Rattle.std.proofs.Common.{ℕ, List}
use Rattle.std.specs.Io.KnownBytes.{Consumes}
use Rattle.frames.specs.Reads.{HasRead}
use Rattle.wire_tests.proofs.tests.framing.read_all.Given as goal

-- of the bytes so far, the items so far and those kept
abbrev pub invariant-pulls : goal.invariant-pulls
invariant-pulls g l = (fed : List ℕ) × Consumes (g.R.Source.remaining l.initial.source) (g.R.Source.remaining l.source) fed × HasRead fed l.items.items l.frames

abbrev pub decreases-pulls : goal.decreases-pulls
decreases-pulls g l = g.R.Source.reads_left l.source
