use Rattle.std.proofs.Common.{◌≡◌, ℕ, List, length}
use Rattle.model.specs.Rows.{Rows}
use Rattle.frames.specs.declared.item.CopyItem.{CopyItem}
use Rattle.frames.specs.Reads.{HasRead}
use Rattle.session.specs.State.{Setting}
use Rattle.run.specs.Devices.{DeviceState}
use Rattle.run.specs.Handler.{IsUnderWay, HasCome}
use Rattle.run.proofs.stream.handle_kept.Given as goal

-- the items handed out so far were handled
abbrev pub invariant-loop-item : goal.invariant-loop-item
invariant-loop-item g l = record {
  under_way : IsUnderWay g.H.Handler.at l.handler;
  ending : l.frames.ending ≡ l.fn.frames.ending;
  reader : l.devices.reader ≡ l.fn.devices.reader;
  unread : l.devices.unread ≡ l.fn.devices.unread;
  left : l.devices.reads_left ≡ l.fn.devices.reads_left;
  come : (h : Setting) (rows : Rows) (old : DeviceState) (bytes : List ℕ) (handled : List CopyItem)
      → HasCome h (g.H.Handler.at h rows) (g.H.Handler.ended h rows) old l.fn.devices l.fn.handler handled → HasRead bytes handled l.fn.frames
      → (more : List CopyItem) × HasCome h (g.H.Handler.at h rows) (g.H.Handler.ended h rows) old l.devices l.handler more × HasRead bytes more l.frames;
}

abbrev pub decreases-loop-item : goal.decreases-loop-item
decreases-loop-item g l = length l.frames.items
