use Rattle.std.proofs.Common.{subst}
use Rattle.parted_store.specs.Lent.{OpenTicket, HasShares}
use Rattle.parted_store.proofs.ticket.Ticket.recall_invariant.Goals as goal

pub returns : goal.returns
returns c = subst (λ (t : OpenTicket). HasShares t) c.self.view_is c.self.invariant.shares
