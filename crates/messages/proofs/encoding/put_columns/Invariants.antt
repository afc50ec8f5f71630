use Rattle.std.proofs.Common.{◌≡◌, ◌++◌, take}
use Rattle.std.specs.List.{All, flat_map}
use Rattle.messages.specs.Messages.{column}
use Rattle.messages.specs.Writing.{Says, column_bytes}
use Rattle.messages.proofs.encoding.put_columns.Given as goal

abbrev pub invariant-loop-column : goal.invariant-loop-column
invariant-loop-column l = record {
  written : l.out.items ≡ l.fn.out.items ++ flat_map column_bytes (take l.column-index l.columns);
  says : All (λ c. Says column (column_bytes c) c) (take l.column-index l.columns);
}
