use Rattle.std.proofs.Common.{◌≡◌, ◌++◌, map, take}
use Rattle.std.specs.List.{flat_map}
use Rattle.sql_batch.specs.Batches.{bound_text}
use Rattle.mirror_statements.specs.Asked.{asked_by_change}
use Rattle.mirror_statements.proofs.batch.push_changes.Given as goal

abbrev pub invariant-loop-change : goal.invariant-loop-change
invariant-loop-change l = map bound_text l.made.items ≡ map bound_text l.fn.made.items ++ flat_map (asked_by_change l.tables) (take l.change-index l.changes)
