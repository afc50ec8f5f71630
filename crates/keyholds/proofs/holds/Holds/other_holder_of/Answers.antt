use Rattle.keyholds.proofs.Seen.{seen_placed, seen_apart, if_none, if_some}
use Rattle.keyholds.specs.Holds.{cells_held}
use Rattle.keyholds.proofs.holds.Holds.other_holder_of.Goals as goal

pub returns-clause-free : goal.returns-clause-free
returns-clause-free g c =
    if_none c.other_holder.result _ _ (c.other_holder.ensures (cells_held c.args.self.now) (seen_placed c.self.inside.lists c.args.self.now c.self.view_is c.self.inside.addresses c.self.invariant))

pub returns-clause-held : goal.returns-clause-held
returns-clause-held g c =
    if_some c.other_holder.result _ _ (c.other_holder.ensures (cells_held c.args.self.now) (seen_placed c.self.inside.lists c.args.self.now c.self.view_is c.self.inside.addresses c.self.invariant))

pub returns-clause-apart : goal.returns-clause-apart
returns-clause-apart g c = seen_apart c.self.inside.lists c.args.self.now c.self.view_is c.self.inside.addresses c.self.invariant
