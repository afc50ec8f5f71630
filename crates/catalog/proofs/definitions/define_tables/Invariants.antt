use Rattle.std.proofs.Common.{◌≡◌, map, take}
use Rattle.catalog.specs.Definitions.{definition_from}
use Rattle.catalog.proofs.definitions.define_tables.Given as goal

abbrev pub invariant-loop-table : goal.invariant-loop-table
invariant-loop-table l = l.definitions.items ≡ map definition_from (take l.table-index l.tables)
