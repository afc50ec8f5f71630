-- Cells: which two overlap, and those that a row fills: its place, and its values in each unique key, if none of them is null.
use Rattle.std.specs.Prelude.{ℕ, suc, ◌==◌, Bool, false, ◌&&◌, List, [], ◌∷◌, ◌++◌, Option, Some, None}
use Rattle.std.specs.Ordering.{eq_by_cmp}
use Rattle.model.specs.declared.key.Key.{Key}
use Rattle.model.specs.declared.row.Row.{Row as Record}
use Rattle.model.specs.declared.cell.Cell.{Cell}
use Rattle.model.specs.declared.cell.Cell.TheVariants.{Row, Uniq, Whole}
use Rattle.model.specs.Key.{key_cmp}
use Rattle.model.specs.Rows.{Schema, keys_at, values_in, key_of}

-- the table that a cell lies in
abbrev pub table_of : Cell → ℕ
table_of (Row table key) = table
table_of (Uniq table number values) = table
table_of (Whole table) = table

-- the keys are equal
abbrev pub same_key : Key → Key → Bool
same_key = eq_by_cmp key_cmp

-- Two cells overlap if they are equal, or if one is the whole of the other's table.
abbrev pub overlaps : Cell → Cell → Bool
overlaps (Row table key) (Row other values) = table == other && same_key key values
overlaps (Row table key) (Uniq other number values) = false
overlaps (Row table key) (Whole other) = table == other
overlaps (Uniq table i key) (Row other values) = false
overlaps (Uniq table i key) (Uniq other j values) = table == other && (i == j && same_key key values)
overlaps (Uniq table i key) (Whole other) = table == other
overlaps (Whole table) cell = table == table_of cell

-- the cell of a row's place; none if its key holds a null
abbrev pub row_cell : ℕ → Option Key → List Cell
row_cell table None = []
row_cell table (Some key) = Row table key ∷ []

-- the cell of a row's values in a unique key; none if one of them is null
abbrev pub unique_cell : ℕ → ℕ → Option Key → List Cell
unique_cell table number None = []
unique_cell table number (Some values) = Uniq table number values ∷ []

-- of the unique keys, numbered from `number`
abbrev pub unique_cells : ℕ → Record → ℕ → List (List ℕ) → List Cell
unique_cells table row number [] = []
unique_cells table row number (columns ∷ uniques) =
    unique_cell table number (values_in columns row) ++ unique_cells table row (suc number) uniques

-- the cells that a row fills
abbrev pub cells_of : Schema → ℕ → Record → List Cell
cells_of schema table row =
    row_cell table (key_of schema table row) ++ unique_cells table row 1 (keys_at schema table).uniques
