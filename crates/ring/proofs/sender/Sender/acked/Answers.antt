use Rattle.std.proofs.Common.{rules}
use Rattle.ring.proofs.SenderSteps.{counts}
use Rattle.ring.proofs.sender.Sender.acked.Goals as goal

pub load-head-requires : goal.load-head-requires
load-head-requires g c = (search rules, search rules, counts _ _ _ c.self.invariant.sends)
