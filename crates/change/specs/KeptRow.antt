-- The row that an inverse keeps for a place, kind by kind.
--     first_emptied      of emptied tables
--     row_kept      of an inverse
--     came_to      its change put a row there, where none stood
use Rattle.std.specs.Prelude.{ℕ, Bool, false, List, [], ◌∷◌, Option, Some, None, ◌==◌, if◌then◌else◌}
use Rattle.std.specs.FinMap.{get}
use Rattle.model.specs.declared.key.Key.{Key}
use Rattle.model.specs.declared.row.Row.{Row}
use Rattle.model.specs.Rows.{is_place}
use Rattle.change.specs.declared.inverse.Inverse.{Inverse}
use Rattle.change.specs.declared.inverse.Inverse.TheVariants.{Take, Put, Replace, Move, Unwipe}
use Rattle.change.specs.declared.inverse.Wiped.{Wiped}
use Rattle.change.specs.Edits.{or_else}

-- the row at the key of the first emptied table of this number that held one there, or none
abbrev pub first_emptied : List Wiped → ℕ → Key → Option Row
first_emptied [] table key = None
first_emptied (w ∷ wiped) table key =
    if table == w.table then or_else (get w.contents.rows key) (first_emptied wiped table key) else first_emptied wiped table key

-- the row that an inverse keeps for a place: the one that its change took from there, or that an emptied table held there
abbrev pub row_kept : Inverse → ℕ → Key → Option Row
row_kept (Take other values) table key = None
row_kept (Put other values row) table key = if is_place (table, key) (other, values) then Some row else None
row_kept (Replace other values row) table key = if is_place (table, key) (other, values) then Some row else None
row_kept (Move other keys row) table key = if is_place (table, key) (other, keys.value.key) then Some row else None
row_kept (Unwipe wiped) table key = first_emptied wiped.items table key

-- the change of an inverse put a row at the place, where none stood
abbrev pub came_to : Inverse → ℕ → Key → Bool
came_to (Take other values) table key = is_place (table, key) (other, values)
came_to (Put other values row) table key = false
came_to (Replace other values row) table key = false
came_to (Move other keys row) table key = is_place (table, key) (other, keys.value.new_key)
came_to (Unwipe wiped) table key = false
