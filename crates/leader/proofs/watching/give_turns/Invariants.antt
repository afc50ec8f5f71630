use Rattle.std.proofs.Common.{◌≡◌}
use Rattle.leader.proofs.watching.give_turns.Given as goal

-- it knows its reader, which is the one that it had
abbrev pub invariant-loop : goal.invariant-loop
invariant-loop g l = record {
  can_next : (goal.iterator-loop g).can_next l.iterator';
  is_finite : (goal.iterator-loop g).is_finite l.iterator';
  knows : ∥ g.V.Watch.knows l.watch l.reader ∥₁;
  origin : l.reader.published.origin ≡ l.fn.reader.published.origin;
  skip : l.reader.published.skip ≡ l.fn.reader.published.skip;
}
