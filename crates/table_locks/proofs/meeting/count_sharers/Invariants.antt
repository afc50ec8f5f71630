use Rattle.std.proofs.Common.{◌≡◌, ◌+◌, ◌≤◌, drop, length}
use Rattle.table_locks.specs.Whole.{numbers_at}
use Rattle.table_locks.proofs.meeting.count_sharers.Given as goal

-- with those that are left they are all, and they are no more than the tickets so far
abbrev pub invariant-loop-ticket : goal.invariant-loop-ticket
invariant-loop-ticket g l = record {
  all : l.count + length (numbers_at l.table (drop l.ticket-index l.tickets)) ≡ length (numbers_at l.table l.tickets);
  few : l.count ≤ l.ticket-index;
}
