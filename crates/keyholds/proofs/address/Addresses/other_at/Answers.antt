use Rattle.keyholds.proofs.Addressing.{tells_another}
use Rattle.keyholds.proofs.address.Addresses.other_at.Goals as goal

pub returns-in-Some : goal.returns-in-Some
returns-in-Some g c = tells_another c.args.self.now (g.C.SoughtCell.cell c.args.cell.now) c.in-Some.address c.in-Some.ensures c.args.xid c.if-address-xid.true
