use Rattle.std.proofs.Common.{◌≡◌}
use Rattle.mirror_file.proofs.reading.read_rows.Given as goal

abbrev pub invariant-loop : goal.invariant-loop
invariant-loop g l = l.tables.schema ≡ l.fn.tables.schema
