use Rattle.std.proofs.Common.{◌≡◌, ◌++◌, map, take}
use Rattle.sql_batch.specs.Batches.{bound_text}
use Rattle.mirror_statements.specs.Asked.{asked_by_clear}
use Rattle.mirror_statements.proofs.batch.push_clears.Given as goal

abbrev pub invariant-loop-table : goal.invariant-loop-table
invariant-loop-table l = map bound_text l.made.items ≡ map bound_text l.fn.made.items ++ asked_by_clear l.tables (take l.table-index l.cleared)
