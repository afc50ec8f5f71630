use Rattle.server.proofs.FrameLemmas.{copy_done_is_frame}
use Rattle.server.proofs.relay.put_scanned.Goals as goal

pub put-requires-in-End-Shutdown : goal.put-requires-in-End-Shutdown
put-requires-in-End-Shutdown c _ = copy_done_is_frame
