use Rattle.std.proofs.Common.{◌≡◌, map, take}
use Rattle.catalog.specs.Definitions.{column_from}
use Rattle.catalog.proofs.definitions.define_columns.Given as goal

abbrev pub invariant-loop-column : goal.invariant-loop-column
invariant-loop-column l = l.definitions.items ≡ map column_from (take l.column-index l.columns)
