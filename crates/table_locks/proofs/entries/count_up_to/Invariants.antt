use Rattle.std.proofs.Common.{◌≤◌, length}
use Rattle.std.specs.List.{Contains}
use Rattle.table_locks.proofs.Positions.{ends_from}
use Rattle.table_locks.proofs.entries.count_up_to.Given as goal

-- none behind those that are left ends there
abbrev pub invariant-loop-left : goal.invariant-loop-left
invariant-loop-left l = record {
  within : l.left ≤ length l.entries;
  behind : ¬ Contains (ends_from l.left l.entries) l.position;
}

abbrev pub decreases-loop-left : goal.decreases-loop-left
decreases-loop-left l = l.left
