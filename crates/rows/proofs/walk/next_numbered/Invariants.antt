use Rattle.std.proofs.Common.{◌≡◌, length, map}
use Rattle.rows.specs.Hashed.{slot_by}
use Rattle.rows.specs.Slots.{rows_among}
use Rattle.rows.proofs.walk.next_numbered.Given as goal

-- the slots passed over so far are empty
abbrev pub invariant-loop-number : goal.invariant-loop-number
invariant-loop-number l = rows_among (map (slot_by l.slots) l.numbers) ≡ rows_among (map (slot_by l.slots) l.initial.numbers)

abbrev pub decreases-loop-number : goal.decreases-loop-number
decreases-loop-number l = length l.numbers
