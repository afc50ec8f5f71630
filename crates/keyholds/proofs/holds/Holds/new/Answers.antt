use Rattle.std.proofs.Common.{ap}
use Rattle.std.specs.Map.{keys_of}
use Rattle.keyholds.specs.Holds.{cells_held}
use Rattle.keyholds.specs.Lists.{lists_seen}
use Rattle.keyholds.proofs.Listing.{no_lists}
use Rattle.keyholds.proofs.Longer.{no_addresses}
use Rattle.keyholds.proofs.holds.Holds.new.Goals as goal

pub invariant_of-result : goal.invariant_of-result
invariant_of-result g c =
    no_addresses (cells_held (lists_seen c.new.result)) c.new-2.result c.new-2.ensures (λ xid. ap keys_of (no_lists c.new.result c.new.ensures.empty xid))

pub returns : goal.returns
returns g c = no_lists c.new.result c.new.ensures.empty
