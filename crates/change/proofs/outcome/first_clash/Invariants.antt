use Rattle.std.proofs.Common.{◌≡◌, ◌+◌, drop}
use Rattle.std.specs.FinMap.{remove}
use Rattle.model.specs.Rows.{keys_at}
use Rattle.model.specs.Effect.{first_taken}
use Rattle.change.proofs.outcome.first_clash.Given as goal

-- the unique keys that are left decide
abbrev pub invariant-loop-index : goal.invariant-loop-index
invariant-loop-index l =
    first_taken (remove l.t.rows (l.table, l.old.key.now)) l.table l.row (l.index + 1) (drop l.index (keys_at l.t.schema l.table).uniques)
    ≡ first_taken (remove l.t.rows (l.table, l.old.key.now)) l.table l.row 1 (keys_at l.t.schema l.table).uniques
