use Rattle.keyholds.proofs.Hashes.{hashes_apart}
use Rattle.std.proofs.Common.{◌∙◌, ap}
use Rattle.model.specs.Hashing.{hash_cell}
use Rattle.keyholds.proofs.hashed.AskedEquivalentHashedCell.equivalent.Goals as goal

pub returns-else-self-key : goal.returns-else-self-key
returns-else-self-key g c =
    hashes_apart c.args.self.now.hash (g.C.SoughtCell.cell c.args.self.now.sought.now) c.args.self.now.hashed c.key.inside.hash c.args.key.now (c.key.invariant ∙ ap hash_cell c.key.view_is) c.if-self-key.false
