use Rattle.std.proofs.Common.{◌≡◌, ◌++◌, take}
use Rattle.std.specs.List.{All, flat_map}
use Rattle.messages.specs.Messages.{relation_column}
use Rattle.messages.specs.Writing.{Says, relation_column_bytes}
use Rattle.messages.proofs.encoding.put_relation_columns.Given as goal

abbrev pub invariant-loop-column : goal.invariant-loop-column
invariant-loop-column l = record {
  written : l.out.items ≡ l.fn.out.items ++ flat_map relation_column_bytes (take l.column-index l.columns);
  says : All (λ c. Says relation_column (relation_column_bytes c) c) (take l.column-index l.columns);
}
