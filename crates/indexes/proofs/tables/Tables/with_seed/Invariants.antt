use Rattle.std.proofs.Common.{◌≡◌, take, map}
use Rattle.std.specs.List.{AllByRecursion}
use Rattle.model.specs.Rows.{keys_of}
use Rattle.indexes.specs.Gathered.{schema_of, IsNew}
use Rattle.indexes.proofs.tables.Tables.with_seed.Given as goal

abbrev pub invariant-loop-definition : goal.invariant-loop-definition
invariant-loop-definition l = record {
  schema : schema_of l.tables.items ≡ map keys_of (take l.definition-index l.definitions);
  new : AllByRecursion IsNew l.tables.items;
}
