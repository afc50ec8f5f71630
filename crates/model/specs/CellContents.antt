-- What is in a cell.
--     unique_key      the columns of a table's unique key, by its number from 1
--     SameAt, AreSame      two states of the rows have the same in a cell; in each of these cells
use Rattle.std.specs.Prelude.{◌≡◌, ℕ, zero, suc, List, Option, Some, None, slice_get}
use Rattle.std.specs.List.{AllByRecursion}
use Rattle.std.specs.FinMap.{get}
use Rattle.model.specs.declared.key.Key.{Key}
use Rattle.model.specs.declared.cell.Cell.{Cell}
use Rattle.model.specs.declared.cell.Cell.TheVariants.{Row, Uniq, Whole}
use Rattle.model.specs.Rows.{Rows, Schema, keys_at, are_taken}

-- the columns of a table's unique key, by its number from 1
abbrev pub unique_key : Schema → ℕ → ℕ → Option (List ℕ)
unique_key schema table zero = None
unique_key schema table (suc number) = slice_get (keys_at schema table).uniques number

-- Both have the same in the cell: the same row at a place, or none; values that are taken in both or in neither, by
-- whichever row; the same rows of a table.
abbrev pub SameAt : Schema → Rows → Rows → Cell → Type 0
SameAt schema rows others (Row table key) = get rows (table, key) ≡ get others (table, key)
SameAt schema rows others (Uniq table number values) =
    (columns : List ℕ) → unique_key schema table number ≡ Some columns
    → are_taken rows table columns values ≡ are_taken others table columns values
SameAt schema rows others (Whole table) = (key : Key) → get rows (table, key) ≡ get others (table, key)

-- the rows are the same in each of these cells
abbrev pub AreSame : Schema → Rows → Rows → List Cell → Type 0
AreSame schema rows others cells = AllByRecursion (SameAt schema rows others) cells
