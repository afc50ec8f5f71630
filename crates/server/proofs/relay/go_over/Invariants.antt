use Rattle.std.proofs.Common.{◌≤◌, length, take}
use Rattle.server.specs.Frames.{AreFrames}
use Rattle.server.proofs.relay.go_over.Given as goal

abbrev pub invariant-frames : goal.invariant-frames
invariant-frames l = (l.scan.ready ≤ length l.bytes) × AreFrames (take l.scan.ready l.bytes)
