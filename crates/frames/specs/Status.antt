-- The status update that is sent to the server (PostgreSQL manual: Streaming Replication Protocol, Standby status update).
use Rattle.std.specs.Prelude.{ℕ, List, [], ◌∷◌, ◌++◌}
use Rattle.std.specs.Int.{w64, cast_unsigned}
use Rattle.frames.specs.declared.update.Status.{Status}
use Rattle.frames.specs.Wire.{copy_data, spelled32, spelled64}

-- What the frame carries: 'r'.
abbrev pub standby_status : ℕ
standby_status = 114

-- Byte1 'r', Int64 written, Int64 flushed, Int64 applied, Int64 clock, Byte1 0, which asks for no reply
abbrev pub status_content : Status → List ℕ
status_content s =
    standby_status ∷ [] ++ spelled64 s.written ++ spelled64 s.flushed ++ spelled64 s.applied ++ spelled64 (cast_unsigned w64 s.clock) ++ 0 ∷ []

-- a CopyData frame with it: 34 bytes, and four of length
abbrev pub status_frame : Status → List ℕ
status_frame s = copy_data ∷ [] ++ spelled32 38 ++ status_content s
