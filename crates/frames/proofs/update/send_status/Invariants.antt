use Rattle.std.proofs.Common.{◌≡◌, ℕ, List, ◌++◌, length}
use Rattle.std.specs.Io.KnownBytes.{Appends}
use Rattle.frames.proofs.update.send_status.Given as goal

-- what was sent, and the rest of the frame
abbrev pub invariant-loop-rest : goal.invariant-loop-rest
invariant-loop-rest g l =
    (sent : List ℕ) × (l.initial.rest ≡ sent ++ l.rest) × Appends (g.W.Sink.contents l.initial.w) (g.W.Sink.contents l.w) sent × (g.W.Sink.failures l.w ≡ g.W.Sink.failures l.initial.w)

abbrev pub decreases-loop-rest : goal.decreases-loop-rest
decreases-loop-rest g l = length l.rest
