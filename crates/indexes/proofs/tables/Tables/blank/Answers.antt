use Rattle.indexes.proofs.Seen as seen
use Rattle.indexes.proofs.tables.Tables.blank.Goals as goal

pub returns-clause-empty : goal.returns-clause-empty
returns-clause-empty c = seen.new_rows c.loop-table.tables.items c.loop-table.invariant.new
