-- The laws as statements, which `laws` promises.
use Rattle.std.specs.Prelude.{◌≡◌, ◌<◌, ◌^◌, Some}
use Rattle.frames.specs.declared.update.Status.{Status}
use Rattle.frames.specs.Status.{status_frame}
use Rattle.mirror_devices.specs.Updates.{flushed_in}

-- Of each status update that is sent the flushed position is found.
abbrev pub UpdatesAreFound : Type 0
UpdatesAreFound = (s : Status) → s.flushed < 2 ^ 64 → flushed_in (status_frame s) ≡ Some s.flushed
