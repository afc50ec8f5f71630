-- What an undo leaves in the place of an inverse.
--     IsTurned      an inverse that settles the row that went
use Rattle.std.specs.Prelude.{◌≡◌, Some}
use Rattle.std.specs.FinMap.{get}
use Rattle.model.specs.declared.row.Row.{Row}
use Rattle.model.specs.Rows.{Rows}
use Rattle.change.specs.declared.inverse.Inverse.{Inverse}
use Rattle.change.specs.declared.inverse.Inverse.TheVariants.{Take, Put, Replace, Move, Unwipe}

-- where a row went from its key, one that puts it there again
abbrev pub IsTurned : Rows → Inverse → Inverse → Type 0
IsTurned rows (Take table key) turned = (row : Row) × (get rows (table, key) ≡ Some row) × (turned ≡ Put table key row)
IsTurned rows (Put table key row) turned = Unit {0}
IsTurned rows (Replace table key row) turned = (gone : Row) × (get rows (table, key) ≡ Some gone) × (turned ≡ Put table key gone)
IsTurned rows (Move table keys row) turned = (gone : Row) × (get rows (table, keys.value.new_key) ≡ Some gone) × (turned ≡ Put table keys.value.new_key gone)
IsTurned rows (Unwipe wiped) turned = Unit {0}
