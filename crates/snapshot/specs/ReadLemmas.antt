-- Positions that rise.
--     one_position      where commits end above one another, one number of them ends at a position
use Rattle.std.proofs.Common.{◌≡◌, ℕ, ◌<◌, List, Some, inl, inr, arith}
use Rattle.std.specs.Prelude.{slice_get}
use Rattle.std.specs.List.Sorted.{IsStrictlyIncreasing}
use Rattle.std.proofs.lemmas.Bool.{cases_order}
use Rattle.std.proofs.lemmas.List.Kept.{AllPairs-from_increasing}
use Rattle.std.proofs.lemmas.Option.{slice_get_within, get_or_from_slice_get}
use Rattle.snapshot.specs.Reads.{positions_seen}
use Rattle.snapshot.specs.Statements.{OnePosition}

not_before : (ns : List ℕ) → IsStrictlyIncreasing ns → (count other n : ℕ) → slice_get ns count ≡ Some n → slice_get ns other ≡ Some n
    → ¬ (count < other)
not_before ns rising count other n here there before =
    let above = AllPairs-from_increasing ns rising count other n before (slice_get_within ns other n there) in
    omega (arith, above, get_or_from_slice_get ns count n n here, get_or_from_slice_get ns other n n there)

pub one_position : OnePosition
one_position s rising count other position here there =
    elim (cases_order count other) [
      | inl same ↦ same
      | inr (inl before) ↦ absurd (not_before (positions_seen s) rising count other position here there before)
      | inr (inr after) ↦ absurd (not_before (positions_seen s) rising other count position there here after)
    ]
