use Rattle.std.proofs.Common.{◌<◌, take}
use Rattle.std.specs.Prelude.{All}
use Rattle.snapshot.proofs.reader.several.check_tables.Given as goal

-- the tables so far are among them
abbrev pub invariant-loop-table : goal.invariant-loop-table
invariant-loop-table l = All (λ table. table < l.count) (take l.table-index l.tables)
