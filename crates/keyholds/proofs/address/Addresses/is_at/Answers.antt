use Rattle.keyholds.proofs.Addressing.{tells_held}
use Rattle.keyholds.proofs.address.Addresses.is_at.Goals as goal

pub returns-in-Some : goal.returns-in-Some
returns-in-Some g c = tells_held c.args.self.now (g.C.SoughtCell.cell c.args.cell.now) c.in-Some.address c.in-Some.ensures c.args.holder c.if-address-holder.true
