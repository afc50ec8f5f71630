use Rattle.std.proofs.Common.{rules}
use Rattle.ring.proofs.SenderSteps.{dooms}
use Rattle.ring.proofs.sender.Sender.doom.Goals as goal

pub store-requires : goal.store-requires
store-requires g c = (search rules, search rules, dooms _ _ _ c.self.invariant.sends)
