use Rattle.std.proofs.Common.{◌≡◌, take}
use Rattle.model.proofs.patch.Patch.from_columns.Given as goal

-- the columns so far
abbrev pub invariant-loop-column : goal.invariant-loop-column
invariant-loop-column l = l.patch ≡ take l.column-index l.columns
