use Rattle.std.proofs.Common.{◌≡◌, drop}
use Rattle.indexes.specs.Columns.{present}
use Rattle.indexes.proofs.sought.first_present.Given as goal

abbrev pub invariant-loop-index : goal.invariant-loop-index
invariant-loop-index l = present (drop l.index l.columns) l.row ≡ present l.columns l.row
