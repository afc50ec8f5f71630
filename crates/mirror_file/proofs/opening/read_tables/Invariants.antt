use Rattle.std.proofs.Common.{◌≡◌}
use Rattle.mirror_file.proofs.opening.read_tables.Given as goal

abbrev pub invariant-loop-table : goal.invariant-loop-table
invariant-loop-table g l = l.tables.schema ≡ l.fn.tables.schema
