-- What follows of what a reader has seen, as a statement. `src/laws.rt` names it, so that the check proves it.
use Rattle.std.specs.Prelude.{◌≡◌, ℕ, Some, slice_get}
use Rattle.std.specs.List.Sorted.{IsStrictlyIncreasing}
use Rattle.snapshot.specs.Reads.{Sight, positions_seen}

-- One number of commits ends at a position, so the rows at a position are one list.
abbrev pub OnePosition : Type 0
OnePosition =
    (s : Sight) → IsStrictlyIncreasing (positions_seen s) → (count other position : ℕ)
    → slice_get (positions_seen s) count ≡ Some position → slice_get (positions_seen s) other ≡ Some position → count ≡ other
