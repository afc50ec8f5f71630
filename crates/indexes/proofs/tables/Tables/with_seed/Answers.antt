use Rattle.indexes.proofs.Seen as seen
use Rattle.indexes.proofs.tables.Tables.with_seed.Goals as goal

pub returns-clause-empty : goal.returns-clause-empty
returns-clause-empty c = seen.new_rows c.loop-definition.tables.items c.loop-definition.invariant.new
