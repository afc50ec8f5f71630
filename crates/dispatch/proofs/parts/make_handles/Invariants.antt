use Rattle.std.proofs.Common.{◌≡◌, ◌+◌, length}
use Rattle.std.specs.Prelude.{All}
use Rattle.dispatch.specs.Handle.{IsIdle}
use Rattle.dispatch.specs.Parts.{AreNumbered}
use Rattle.dispatch.proofs.parts.make_handles.Given as goal

-- the workers so far are free, and with the ends that are left, which are numbered, there is one for each
abbrev pub invariant-loop-own : goal.invariant-loop-own
invariant-loop-own g l = record {
  free : All IsIdle l.workers.items;
  numbered : AreNumbered 0 l.ends.items;
  count : length l.workers.items + length l.ends.items ≡ length l.fn.ends.items;
}

abbrev pub decreases-loop-own : goal.decreases-loop-own
decreases-loop-own g l = length l.ends.items
