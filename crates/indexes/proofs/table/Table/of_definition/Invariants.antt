use Rattle.std.proofs.Common.{◌≡◌, take}
use Rattle.std.specs.List.{AllByRecursion}
use Rattle.indexes.specs.Unique.{HasNone, columns_of}
use Rattle.indexes.proofs.table.Table.of_definition.Given as goal

abbrev pub invariant-loop-columns : goal.invariant-loop-columns
invariant-loop-columns l = record {
  columns : columns_of l.uniques.items ≡ take l.columns-index l.columns-items;
  none : AllByRecursion HasNone l.uniques.items;
}
