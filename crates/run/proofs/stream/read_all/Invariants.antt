use Rattle.std.proofs.Common.{◌≡◌, [], None}
use Rattle.model.specs.Rows.{Rows}
use Rattle.frames.specs.Reads.{fault_of}
use Rattle.session.specs.State.{Setting}
use Rattle.run.specs.Progress.{start_progress}
use Rattle.run.specs.Handler.{IsUnderWay}
use Rattle.run.proofs.Reading.{SoFar}
use Rattle.run.proofs.stream.read_all.Given as goal

-- the items of the bytes so far were handled, and none is kept
abbrev pub invariant-pulls : goal.invariant-pulls
invariant-pulls g l = record {
  under_way : IsUnderWay g.H.Handler.at l.handler;
  unbroken : fault_of l.frames.ending ≡ None;
  none : l.frames.items ≡ [];
  come : (h : Setting) (rows : Rows) → g.H.Handler.at h rows l.fn.handler start_progress → SoFar h (g.H.Handler.at h rows) (g.H.Handler.ended h rows) l.fn.devices l.devices l.handler l.frames;
}

abbrev pub decreases-pulls : goal.decreases-pulls
decreases-pulls g l = l.devices.reads_left
