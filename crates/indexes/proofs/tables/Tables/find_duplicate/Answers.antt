use Rattle.indexes.proofs.Seen as seen
use Rattle.indexes.proofs.tables.Tables.find_duplicate.Goals as goal

pub returns : goal.returns
returns c =
    seen.sought_duplicate c.self.inside.tables.items _ c.self.view_is _ c.requires.known _ c.index.ensures c.args.number c.args.row.now c.find_duplicate.result c.find_duplicate.ensures
