-- The part of a stream that a run has handled.
--     StreamPart      items of the bytes that the reader gave, and the progress that they led to
use Rattle.std.specs.Prelude.{◌≡◌, ℕ, ℤ, List, ◌++◌, length}
use Rattle.std.specs.Io.KnownBytes.{Consumes}
use Rattle.frames.specs.declared.item.CopyItem.{CopyItem}
use Rattle.frames.specs.Stream.{copy_items}
use Rattle.session.specs.State.{Setting}
use Rattle.run.specs.Clock.{Ticks}
use Rattle.run.specs.Devices.{DeviceState}
use Rattle.run.specs.Progress.{Progress, start_progress, Leads}

-- Of the bytes that the reader gave, a run handled these items, each lawful after those before it,
-- and left the rest. The clock told a time for each status update.
pub record StreamPart (g : Setting) (old new : DeviceState) : Type 0 where
  pub bytes : List ℕ
  pub read : Consumes old.unread new.unread bytes
  pub handled : List CopyItem
  pub rest : List CopyItem
  pub items : handled ++ rest ≡ copy_items bytes
  pub progress : Progress
  pub lawful : Leads g start_progress handled progress
  pub times : List ℤ
  pub told : Ticks old.times new.times times
  pub counted : length times ≡ length progress.updates
