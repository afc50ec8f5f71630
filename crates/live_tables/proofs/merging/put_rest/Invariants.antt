use Rattle.std.proofs.Common.{◌≡◌, ◌++◌}
use Rattle.std.specs.Map.{values_of}
use Rattle.live_tables.specs.Merged.{kept_each}
use Rattle.live_tables.proofs.merging.put_rest.Given as goal

abbrev pub invariant-loop-row : goal.invariant-loop-row
invariant-loop-row l = l.initial.rows.items ++ values_of (kept_each l.fn.stands.entries) ≡ l.rows.items ++ values_of (kept_each l.row-iterator)
