use Rattle.std.proofs.Common.{◌≡◌, map, take}
use Rattle.catalog.specs.Definitions.{column_number}
use Rattle.catalog.proofs.definitions.define_key.Given as goal

abbrev pub invariant-loop-name : goal.invariant-loop-name
invariant-loop-name l = l.numbers.items ≡ map (column_number l.columns) (take l.name-index l.names)
