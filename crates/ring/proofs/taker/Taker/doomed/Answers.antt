use Rattle.std.proofs.Common.{rules}
use Rattle.ring.proofs.TakerSteps.{hears}
use Rattle.ring.proofs.taker.Taker.doomed.Goals as goal

pub load-doom-requires : goal.load-doom-requires
load-doom-requires g c = (search rules, search rules, hears _ _ _ c.self.invariant.takes)
