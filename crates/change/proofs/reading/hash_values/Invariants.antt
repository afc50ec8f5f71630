use Rattle.std.proofs.Common.{◌≡◌, drop}
use Rattle.model.specs.Hashing as spec
use Rattle.indexes.specs.Columns.{present}
use Rattle.change.specs.Reading.{read_row}
use Rattle.change.proofs.reading.hash_values.Given as goal

abbrev pub invariant-loop-column : goal.invariant-loop-column
invariant-loop-column l = spec.hash_values l.hash (present (drop l.column-index l.columns) (read_row l.row)) ≡ spec.hash_of (present l.columns (read_row l.row))
