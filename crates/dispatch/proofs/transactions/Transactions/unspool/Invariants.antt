use Rattle.dispatch.specs.Standing.{HasDoneAll}
use Rattle.dispatch.proofs.transactions.Transactions.unspool.Given as goal

-- the items so far were applied
abbrev pub invariant-loop-item : goal.invariant-loop-item
invariant-loop-item g l = record {
  can_next : (goal.iterator-loop-item g).can_next l.item-iterator;
  is_finite : (goal.iterator-loop-item g).is_finite l.item-iterator;
  done : HasDoneAll l.fn.self l.xid l.yielded l.self;
}
