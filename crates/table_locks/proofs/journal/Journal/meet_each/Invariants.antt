use Rattle.std.proofs.Common.{◌≡◌, ℕ, ◌<◌, ◌≤◌, length}
use Rattle.table_locks.specs.Lending.{state_at}
use Rattle.table_locks.specs.Reading.{HasGuarded}
use Rattle.table_locks.proofs.journal.Journal.meet_each.Given as goal

-- those so far are met, and the others are as they were
abbrev pub invariant-loop-i : goal.invariant-loop-i
invariant-loop-i g l = record {
  places : length l.guards ≡ length l.initial.guards;
  same : l.self ≡ l.initial.self;
  met : (k : ℕ) → k < l.i → HasGuarded g.N.StoreNames.schema g.N.StoreNames.start l.initial.self.part.line.list (state_at l.initial.guards k);
  left : (k : ℕ) → l.i ≤ k → state_at l.guards k ≡ state_at l.initial.guards k;
}
