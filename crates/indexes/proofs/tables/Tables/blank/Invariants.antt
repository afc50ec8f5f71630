use Rattle.std.proofs.Common.{◌≡◌, take}
use Rattle.std.specs.List.{AllByRecursion}
use Rattle.indexes.specs.Gathered.{schema_of, IsNew}
use Rattle.indexes.proofs.tables.Tables.blank.Given as goal

abbrev pub invariant-loop-table : goal.invariant-loop-table
invariant-loop-table l = record {
  schema : schema_of l.tables.items ≡ schema_of (take l.table-index l.table-items);
  new : AllByRecursion IsNew l.tables.items;
}
