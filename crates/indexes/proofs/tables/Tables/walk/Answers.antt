use Rattle.std.proofs.Common.{sym, ◌∙◌}
use Rattle.indexes.proofs.Seen as seen
use Rattle.indexes.proofs.tables.Tables.walk.Goals as goal

pub returns-clause-rows : goal.returns-clause-rows
returns-clause-rows c =
    c.walk.ensures.rows ∙ sym (seen.seen_rows c.self.inside.tables.items _ c.self.view_is _ c.requires _ c.index.ensures)
