use Rattle.std.proofs.Common.{◌≡◌, take}
use Rattle.model.proofs.row.Row.from_values.Given as goal

-- the columns so far are those of the values so far
abbrev pub invariant-loop-value : goal.invariant-loop-value
invariant-loop-value l = l.row ≡ take l.value-index l.values
