use Rattle.std.proofs.Common.{◌≡◌, false}
use Rattle.std.specs.Prelude.{All, map}
use Rattle.engine.specs.Events.{commits_in, is_open_in}
use Rattle.dispatch.specs.Standing.{Own, own_by}
use Rattle.leader.proofs.ending.undo_all.Given as goal

-- the transactions so far are open no more by the line, which tells the same commits
abbrev pub invariant-loop-ticket : goal.invariant-loop-ticket
invariant-loop-ticket g l = record {
  can_next : (goal.iterator-loop-ticket g).can_next l.ticket-iterator;
  is_finite : (goal.iterator-loop-ticket g).is_finite l.ticket-iterator;
  name : l.line.name ≡ g.N.StoreNames.line;
  commits : commits_in l.line.list ≡ commits_in l.fn.line.list;
  gone : All (λ (h : Own). is_open_in l.line.list h.xid ≡ false) (map own_by l.yielded);
}
