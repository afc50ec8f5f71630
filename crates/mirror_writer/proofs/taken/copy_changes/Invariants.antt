use Rattle.std.proofs.Common.{◌≡◌, ◌++◌}
use Rattle.mirror_writer.proofs.taken.copy_changes.Given as goal

abbrev pub invariant-loop-change : goal.invariant-loop-change
invariant-loop-change l = l.copy.items ++ l.change-iterator ≡ l.changes
