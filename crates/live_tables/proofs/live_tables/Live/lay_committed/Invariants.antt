use Rattle.std.proofs.Common.{take}
use Rattle.world.specs.World.{World}
use Rattle.live_tables.specs.Merged.{AreLaid}
use Rattle.live_tables.specs.ByHolds.{RepresentsByHolds}
use Rattle.live_tables.proofs.live_tables.Live.lay_committed.Given as goal

-- what is committed at the keys so far
abbrev pub invariant-loop-key : goal.invariant-loop-key
invariant-loop-key l = (w : World) → RepresentsByHolds w l.self → AreLaid w.committed l.table (take l.key-index l.keys) l.fn.known l.known
