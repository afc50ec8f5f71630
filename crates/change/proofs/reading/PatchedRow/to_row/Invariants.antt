use Rattle.std.proofs.Common.{◌≡◌, take}
use Rattle.change.specs.Reading.{read_row}
use Rattle.change.proofs.reading.PatchedRow.to_row.Given as goal

-- the columns so far
abbrev pub invariant-loop-column : goal.invariant-loop-column
invariant-loop-column l = l.row ≡ take l.column (read_row l.self)
