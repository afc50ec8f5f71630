use Rattle.std.proofs.Common.{◌≡◌, ◌++◌, map, take}
use Rattle.sqlite.specs.Values.{bound}
use Rattle.mirror_statements.specs.Asked.{sql_value}
use Rattle.mirror_statements.proofs.values.push_values.Given as goal

abbrev pub invariant-loop-value : goal.invariant-loop-value
invariant-loop-value l = bound l.into.items ≡ bound l.fn.into.items ++ map sql_value (take l.value-index l.values)
