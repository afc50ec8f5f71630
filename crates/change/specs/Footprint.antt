-- The cells of a change, as they are handed out.
--     one_or_none      the list of what is there
--     looked_row, footprint_at      the row that a change looks up; its cells, where this row stands there
use Rattle.std.specs.Prelude.{List, [], ◌∷◌, Option, Some, None, map}
use Rattle.model.specs.declared.row.Row.{Row as Record}
use Rattle.model.specs.declared.change.Change.{Change}
use Rattle.model.specs.declared.change.Change.TheVariants.{Put, Set, Remove, Wipe}
use Rattle.model.specs.declared.cell.Cell.{Cell}
use Rattle.model.specs.declared.cell.Cell.TheVariants.{Row, Whole}
use Rattle.model.specs.Rows.{Place, Schema}
use Rattle.model.specs.Cells.{cells_of}
use Rattle.model.specs.Footprint.{replaced_cells, removed_cells}

-- the list of what is there: of one, or empty
abbrev pub one_or_none : {X : Type 0} → Option X → List X
one_or_none None = []
one_or_none (Some x) = x ∷ []

-- the row at the place that a change looks up, where these stand
abbrev pub looked_row : Change → (Place → Option Record) → Option Record
looked_row (Put table row) at = None
looked_row (Set table key patch) at = at (table, key)
looked_row (Remove table key) at = at (table, key)
looked_row (Wipe tables) at = None

-- the cells that a change looks up or alters, where this row stands at the place that it looks up
abbrev pub footprint_at : Schema → Change → Option Record → List Cell
footprint_at schema (Put table row) old = cells_of schema table row
footprint_at schema (Set table key patch) old = Row table key ∷ replaced_cells schema table key patch old
footprint_at schema (Remove table key) old = Row table key ∷ removed_cells schema table old
footprint_at schema (Wipe tables) old = map Whole tables
