-- What an undo gives up that is for nobody else.
--     IsVacated      an inverse is put back: of a row that goes, no empty slot and no entry is left
--     AreVacated      so it is with each of a list, the last of them put back first
use Rattle.std.specs.Prelude.{◌≡◌, List, [], ◌∷◌, Some, map}
use Rattle.std.specs.FinMap.{get}
use Rattle.model.specs.declared.row.Row.{Row}
use Rattle.model.specs.declared.cell.Cell.{Cell}
use Rattle.model.specs.Rows.{Rows, Schema}
use Rattle.model.specs.Effect.{all_back}
use Rattle.change.specs.declared.inverse.Inverse.{Inverse}
use Rattle.change.specs.declared.inverse.Inverse.TheVariants.{Take, Put, Replace, Move, Unwipe}
use Rattle.change.specs.Inverse.{edits_of}
use Rattle.undo.specs.Undo.{IsReleased}

-- The row that goes where an inverse is put back, on these rows, has its cells given up, where no row of those now fills them.
abbrev pub IsVacated : Schema → Rows → Rows → List Cell → Inverse → Type 0
IsVacated schema before now room (Take table key) = (row : Row) → get before (table, key) ≡ Some row → IsReleased schema now room table key row
IsVacated schema before now room (Put table key row) = Unit {0}
IsVacated schema before now room (Replace table key row) = (gone : Row) → get before (table, key) ≡ Some gone → IsReleased schema now room table key gone
IsVacated schema before now room (Move table keys row) =
    (gone : Row) → get before (table, keys.value.new_key) ≡ Some gone → IsReleased schema now room table keys.value.new_key gone
IsVacated schema before now room (Unwipe wiped) = Unit {0}

-- each of them, put back on the rows that those after it leave
abbrev pub AreVacated : Schema → Rows → Rows → List Cell → List Inverse → Type 0
AreVacated schema before now room [] = Unit {0}
AreVacated schema before now room (i ∷ is) = IsVacated schema (all_back before (map edits_of is)) now room i × AreVacated schema before now room is
