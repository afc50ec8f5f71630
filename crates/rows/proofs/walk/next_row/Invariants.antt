use Rattle.std.proofs.Common.{◌≡◌, length}
use Rattle.rows.specs.Slots.{rows_among}
use Rattle.rows.proofs.walk.next_row.Given as goal

-- the slots passed over so far are empty
abbrev pub invariant-loop-slot : goal.invariant-loop-slot
invariant-loop-slot l = rows_among l.slots ≡ rows_among l.initial.slots

abbrev pub decreases-loop-slot : goal.decreases-loop-slot
decreases-loop-slot l = length l.slots
