use Rattle.std.proofs.Common.{◌≡◌, ◌≤◌, filter, length, take}
use Rattle.table_parts.proofs.Until.{is_until}
use Rattle.table_parts.proofs.entries.count_until.Given as goal

-- none behind those that are left is up to the position
abbrev pub invariant-loop-left : goal.invariant-loop-left
invariant-loop-left l = record {
  within : l.left ≤ length l.entries;
  behind : filter (is_until l.position) (take l.left l.entries) ≡ filter (is_until l.position) l.entries;
}

abbrev pub decreases-loop-left : goal.decreases-loop-left
decreases-loop-left l = l.left
