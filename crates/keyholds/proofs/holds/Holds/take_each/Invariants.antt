use Rattle.std.proofs.Common.{◌≡◌, ◌≢◌, ℕ}
use Rattle.keyholds.specs.Holds.{holds_of, with_holds}
use Rattle.keyholds.proofs.holds.Holds.take_each.Given as goal

-- the cells so far were taken
abbrev pub invariant-loop-cell : goal.invariant-loop-cell
invariant-loop-cell g l = record {
  can_next : (goal.iterator-loop-cell g).can_next l.cell-iterator;
  is_finite : (goal.iterator-loop-cell g).is_finite l.cell-iterator;
  own : holds_of l.self l.xid ≡ with_holds (holds_of l.fn.self l.xid) l.yielded;
  others : (other : ℕ) → other ≢ l.xid → holds_of l.self other ≡ holds_of l.fn.self other;
}
