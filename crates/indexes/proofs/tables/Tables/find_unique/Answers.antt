use Rattle.indexes.proofs.Seen as seen
use Rattle.indexes.proofs.tables.Tables.find_unique.Goals as goal

pub returns : goal.returns
returns c =
    seen.sought_values c.self.inside.tables.items _ c.self.view_is _ c.requires.known _ c.index.ensures c.args.number c.args.values.now c.find_unique.result c.find_unique.ensures
