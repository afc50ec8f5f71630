-- Which cells an inverse alters: the places of its rows, and each table that was emptied, as a whole.
use Rattle.std.specs.Prelude.{List, [], ◌∷◌, map}
use Rattle.model.specs.declared.cell.Cell.{Cell}
use Rattle.model.specs.declared.cell.Cell.TheVariants.{Row, Whole}
use Rattle.change.specs.declared.inverse.Wiped.{Wiped}
use Rattle.change.specs.declared.inverse.Inverse.{Inverse}
use Rattle.change.specs.declared.inverse.Inverse.TheVariants.{Take, Put, Replace, Move, Unwipe}

-- the cells that an inverse alters
abbrev pub cells_altered : Inverse → List Cell
cells_altered (Take table key) = Row table key ∷ []
cells_altered (Put table key row) = Row table key ∷ []
cells_altered (Replace table key row) = Row table key ∷ []
cells_altered (Move table keys row) = Row table keys.value.key ∷ Row table keys.value.new_key ∷ []
cells_altered (Unwipe wiped) = map (λ (w : Wiped). Whole w.table) wiped.items
