-- The rows that a walk has left.
use Rattle.std.specs.Prelude.{◌≡◌, List, [], ◌∷◌, Option, map, MatchOption}
use Rattle.model.specs.declared.row.Row.{Row}
use Rattle.rows.specs.declared.walk.Left.{Left}
use Rattle.rows.specs.declared.walk.Left.TheVariants.{Slots, Numbers as ByNumber}
use Rattle.rows.specs.declared.walk.Numbers.{Numbers}
use Rattle.rows.specs.Hashed.{slot_by}
use Rattle.rows.specs.Slots.{rows_among}

-- the rows in the slots of numbers
abbrev pub rows_by : Numbers → List Row
rows_by n = rows_among (map (slot_by n.slots.now) n.numbers)

-- the rows in the slots that are left, or in those of the numbers that are left
abbrev pub rows_left : Left → List Row
rows_left (Slots slots) = rows_among slots
rows_left (ByNumber numbers) = rows_by numbers

-- the first row that was left, and the others are left; or none was left
abbrev pub YieldsRow : List Row → Option Row → List Row → Type 0
YieldsRow old row new = MatchOption row ((old ≡ []) × (new ≡ [])) (λ first. old ≡ first ∷ new)
