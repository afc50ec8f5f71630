-- Status updates among the bytes that are sent.
use Rattle.std.specs.Prelude.{ℕ, ◌==◌, ◌&&◌, if◌then◌else◌, List, length, slice_index, Option, Some, None}
use Rattle.frames.specs.Wire.{copy_data, int64, bytes_at}
use Rattle.frames.specs.Status.{standby_status}

-- up to where the frame of a status update says that the log was flushed
abbrev pub flushed_in : List ℕ → Option ℕ
flushed_in bytes =
    if (length bytes == 39) && ((slice_index bytes 0 == copy_data) && (slice_index bytes 5 == standby_status)) then Some (int64 (bytes_at 14 8 bytes)) else None
