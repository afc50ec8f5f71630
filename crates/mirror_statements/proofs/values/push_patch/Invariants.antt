use Rattle.std.proofs.Common.{◌≡◌, ◌++◌, take}
use Rattle.std.specs.List.{flat_map}
use Rattle.sqlite.specs.Values.{bound}
use Rattle.mirror_statements.specs.Asked.{sql_patch}
use Rattle.mirror_statements.proofs.values.push_patch.Given as goal

abbrev pub invariant-loop-number : goal.invariant-loop-number
invariant-loop-number l = bound l.into.items ≡ bound l.fn.into.items ++ flat_map sql_patch (take l.number l.patch)
