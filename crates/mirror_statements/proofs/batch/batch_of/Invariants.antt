use Rattle.std.proofs.Common.{◌≡◌, map, take}
use Rattle.sql_batch.specs.Batches.{bound_text}
use Rattle.mirror_statements.specs.Asked.{asked_by_commits}
use Rattle.mirror_statements.proofs.batch.batch_of.Given as goal

abbrev pub invariant-loop-commit : goal.invariant-loop-commit
invariant-loop-commit l = map bound_text l.made.items ≡ asked_by_commits l.file.tables.items (take l.commit-index l.commits)
