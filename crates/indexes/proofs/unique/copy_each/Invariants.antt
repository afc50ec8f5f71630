use Rattle.std.proofs.Common.{◌≡◌, take, map}
use Rattle.indexes.specs.Unique.{plain}
use Rattle.indexes.proofs.unique.copy_each.Given as goal

abbrev pub invariant-loop-unique : goal.invariant-loop-unique
invariant-loop-unique l = map plain l.copies.items ≡ map plain (take l.unique-index l.uniques)
