use Rattle.std.proofs.Common.{◌≡◌, map, take}
use Rattle.relcache.specs.Published.{published_column}
use Rattle.relcache.proofs.published.Published.of.Given as goal

-- the columns so far
abbrev pub invariant-loop-column : goal.invariant-loop-column
invariant-loop-column l = l.columns.items ≡ map published_column (take l.column-index l.sent)
