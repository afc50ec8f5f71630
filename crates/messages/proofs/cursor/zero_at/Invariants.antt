use Rattle.std.proofs.Common.{◌≡◌, ℕ, ◌<◌, false, get_or}
use Rattle.messages.specs.Field.{is_zero}
use Rattle.messages.proofs.cursor.zero_at.Given as goal

abbrev pub invariant-loop-i : goal.invariant-loop-i
invariant-loop-i l = (k : ℕ) → k < l.i → is_zero (get_or l.bytes k 0) ≡ false
