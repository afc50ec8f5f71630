-- What a log tells of a change by the inverse that comes next.
--     next_row      the row that the next of these inverses puts back at a place, or none
--     has_next      whether the next inverse is the change's own, or the change was skipped
--     first_of, rest_of      the inverses of the change itself, and those behind it
use Rattle.std.specs.Prelude.{Bool, true, false, List, [], ◌∷◌, Option, None, is_some, take, drop}
use Rattle.model.specs.declared.row.Row.{Row}
use Rattle.model.specs.declared.change.Change.{Change}
use Rattle.model.specs.declared.change.Change.TheVariants.{Put, Set, Remove, Wipe}
use Rattle.model.specs.Rows.{Place}
use Rattle.change.specs.declared.inverse.Inverse.{Inverse}
use Rattle.change.specs.Inverse.{row_by_inverse}

-- the row that the next of these inverses puts back at a place, or none
abbrev pub next_row : List Inverse → Place → Option Row
next_row [] place = None
next_row (i ∷ is) place = row_by_inverse i place

-- the change has the next inverse, where this row stood at the place that it looks up: an update or a delete that met none was skipped
abbrev pub has_next : Change → Option Row → Bool
has_next (Put table row) old = true
has_next (Set table key patch) old = is_some old
has_next (Remove table key) old = is_some old
has_next (Wipe tables) old = true

-- the inverses of a change itself, if it has the next one
abbrev pub first_of : Bool → List Inverse → List Inverse
first_of true is = take 1 is
first_of false is = []

-- the inverses that are left behind it
abbrev pub rest_of : Bool → List Inverse → List Inverse
rest_of true is = drop 1 is
rest_of false is = is
