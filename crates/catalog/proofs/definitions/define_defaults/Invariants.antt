use Rattle.std.proofs.Common.{◌≡◌, map, take}
use Rattle.catalog.specs.Definitions.{default_from}
use Rattle.catalog.proofs.definitions.define_defaults.Given as goal

abbrev pub invariant-loop-column : goal.invariant-loop-column
invariant-loop-column l = l.defaults.items ≡ map default_from (take l.column-index l.columns)
