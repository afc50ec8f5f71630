use Rattle.std.specs.Map.{keys_of}
use Rattle.keyholds.specs.Addresses.{with_cells}
use Rattle.keyholds.proofs.Longer.{addresses_removed, longer_with_cells, keys_of-push}
use Rattle.keyholds.proofs.holds.pop_past.Goals as goal

pub returns-clause-addresses : goal.returns-clause-addresses
returns-clause-addresses g c = λ held kept.
    let xid = c.args.xid in
    let more = keys_of c.args.list.now.items in
    let fewer = keys_of c.pop.new.self.items in
    addresses_removed (with_cells held xid fewer) (with_cells held xid more) xid c.in_ok-cell.cell
    (longer_with_cells held xid fewer more c.in_ok-cell.cell (keys_of-push c.pop.new.self.items c.args.list.now.items _ c.in_ok-cell.ensures.items))
    c.args.addresses.now c.remove.new.self kept c.remove.ensures
