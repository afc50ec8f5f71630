use Rattle.std.proofs.Common.{◌≡◌, drop}
use Rattle.model.specs.Rows.{values_in}
use Rattle.model.specs.Footprint.{both_have}
use Rattle.change.specs.Reading.{read_row}
use Rattle.change.proofs.reading.has_same.Given as goal

-- the columns so far have the same, so the rest decide
abbrev pub invariant-loop-column : goal.invariant-loop-column
invariant-loop-column l =
    both_have (values_in (drop l.column-index l.columns) (read_row l.old)) (values_in (drop l.column-index l.columns) (read_row l.new))
    ≡ both_have (values_in l.columns (read_row l.old)) (values_in l.columns (read_row l.new))
