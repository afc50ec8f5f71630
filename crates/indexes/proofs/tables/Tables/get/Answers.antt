use Rattle.std.proofs.Common.{sym, ◌∙◌}
use Rattle.indexes.proofs.Seen as seen
use Rattle.indexes.proofs.tables.Tables.get.Goals as goal

pub returns : goal.returns
returns c =
    c.get.ensures ∙ sym (seen.seen_get c.self.inside.tables.items _ c.self.view_is _ c.requires _ c.index.ensures c.args.key.now)
