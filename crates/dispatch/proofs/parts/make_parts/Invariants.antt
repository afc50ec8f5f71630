use Rattle.std.proofs.Common.{◌≡◌, length}
use Rattle.std.specs.Prelude.{All}
use Rattle.dispatch.specs.Parts.{IsFresh, HasSlots}
use Rattle.dispatch.proofs.parts.make_parts.Given as goal

-- the parts so far are fresh, their rings have so many slots, and there is one for each turn
abbrev pub invariant-loop : goal.invariant-loop
invariant-loop g l = All IsFresh l.made.items × All (HasSlots l.slots) l.made.items × (length l.made.items ≡ l.counter)
