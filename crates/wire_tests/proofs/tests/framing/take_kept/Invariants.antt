use Rattle.std.proofs.Common.{◌≡◌, ℕ, List, length}
use Rattle.frames.specs.Reads.{HasRead}
use Rattle.wire_tests.proofs.tests.framing.take_kept.Given as goal

-- the same is known of the items moved and those kept
abbrev pub invariant-loop-item : goal.invariant-loop-item
invariant-loop-item l =
    record {
      ending : l.frames.ending ≡ l.initial.frames.ending;
      read : (fed : List ℕ) → HasRead fed l.initial.items.items l.initial.frames → HasRead fed l.items.items l.frames;
    }

abbrev pub decreases-loop-item : goal.decreases-loop-item
decreases-loop-item l = length l.frames.items
