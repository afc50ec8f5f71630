-- The flushed position in the frame of a status update.
use Rattle.std.proofs.Common.{ap, Some}
use Rattle.std.proofs.lemmas.Nat.{from_be_bytes-to_be_bytes_8}
use Rattle.frames.specs.Wire.{int64, spelled32, spelled64}
use Rattle.mirror_devices.specs.Statements.{UpdatesAreFound}

pub updates_are_found : UpdatesAreFound
unfolding int64 spelled32 spelled64
updates_are_found s fits = ap Some (from_be_bytes-to_be_bytes_8 s.flushed fits)
