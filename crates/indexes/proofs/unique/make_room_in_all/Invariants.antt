use Rattle.std.proofs.Common.{◌≡◌, ℕ, ◌<◌, ◌≤◌, get_or}
use Rattle.indexes.specs.declared.unique.Unique.{Unique}
use Rattle.indexes.specs.Unique.{KeepsSlots}
use Rattle.indexes.proofs.unique.make_room_in_all.Given as goal

abbrev pub invariant-loop-unique : goal.invariant-loop-unique
invariant-loop-unique l =
    record {
      done : (k : ℕ) (d : Unique) → k < l.unique-index → KeepsSlots (get_or l.fn.uniques k d) (get_or l.uniques k d);
      left : (k : ℕ) (d : Unique) → l.unique-index ≤ k → get_or l.uniques k d ≡ get_or l.fn.uniques k d;
    }
