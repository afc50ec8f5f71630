use Rattle.keyholds.proofs.Seen.{seen_placed}
use Rattle.keyholds.specs.Holds.{cells_held}
use Rattle.keyholds.proofs.holds.Holds.overlaps_one.Goals as goal

pub returns : goal.returns
returns g c =
    c.overlaps_one.ensures (cells_held c.args.self.now) (seen_placed c.self.inside.lists c.args.self.now c.self.view_is c.self.inside.addresses c.self.invariant)
