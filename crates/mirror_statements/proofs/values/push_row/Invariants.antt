use Rattle.std.proofs.Common.{◌≡◌, ◌++◌, map, take}
use Rattle.sqlite.specs.Values.{bound}
use Rattle.mirror_statements.specs.Asked.{sql_column}
use Rattle.mirror_statements.proofs.values.push_row.Given as goal

abbrev pub invariant-loop-number : goal.invariant-loop-number
invariant-loop-number l = bound l.into.items ≡ bound l.fn.into.items ++ map sql_column (take l.number l.row)
