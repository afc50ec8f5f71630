-- Which cells a change looks up or alters.
--     footprint      those of a change, on the rows that it meets
--     looked_up      the cell of the row that a change looks up
--     held_cells      those of changes, one after another, each on the rows that those before it leave
--     shares_cell      two lists of cells in which one overlaps another
use Rattle.std.specs.Prelude.{ℕ, suc, Bool, false, List, [], ◌∷◌, ◌++◌, map, Option, Some, None, if◌then◌else◌}
use Rattle.std.specs.List.{list_any}
use Rattle.std.specs.FinMap.{get}
use Rattle.model.specs.declared.key.Key.{Key}
use Rattle.model.specs.declared.row.Row.{Row as Record}
use Rattle.model.specs.declared.change.Change.{Change}
use Rattle.model.specs.declared.change.Change.TheVariants.{Put, Set, Remove, Wipe}
use Rattle.model.specs.declared.patch.ColumnPatch.{ColumnPatch}
use Rattle.model.specs.declared.cell.Cell.{Cell}
use Rattle.model.specs.declared.cell.Cell.TheVariants.{Row, Whole}
use Rattle.model.specs.Rows.{Rows, Schema, keys_at, values_in, key_of, is_key}
use Rattle.model.specs.Effect.{patch_row, effect}
use Rattle.model.specs.Cells.{overlaps, row_cell, unique_cell, unique_cells, cells_of}

-- both rows have the same values there, none of them null
abbrev pub both_have : Option Key → Option Key → Bool
both_have old None = false
both_have old (Some values) = is_key old values

-- the cells of the values that the old row and the new one have in a unique key, unless both have the same
abbrev pub moved_cell : ℕ → ℕ → Option Key → Option Key → List Cell
moved_cell table number old new =
    if both_have old new then [] else unique_cell table number old ++ unique_cell table number new

-- of the unique keys, numbered from `number`
abbrev pub moved_cells : ℕ → Record → Record → ℕ → List (List ℕ) → List Cell
moved_cells table old new number [] = []
moved_cells table old new number (columns ∷ uniques) =
    moved_cell table number (values_in columns old) (values_in columns new) ++ moved_cells table old new
    (suc number) uniques

-- the cell of the new key's place, if the key differs from the old one and holds no null
abbrev pub new_place : ℕ → Key → Option Key → List Cell
new_place table key new = if is_key new key then [] else row_cell table new

-- what an update looks up or alters beside its place, where this row stands there
abbrev pub replaced_cells : Schema → ℕ → Key → List ColumnPatch → Option Record → List Cell
replaced_cells schema table key patch None = []
replaced_cells schema table key patch (Some old) =
    new_place table key (key_of schema table (patch_row patch old)) ++ moved_cells table old (patch_row patch old) 1
    (keys_at schema table).uniques

-- what a delete alters beside its place, where this row stands there
abbrev pub removed_cells : Schema → ℕ → Option Record → List Cell
removed_cells schema table None = []
removed_cells schema table (Some old) = unique_cells table old 1 (keys_at schema table).uniques

-- The cells that a change looks up or alters: the places of the rows, absent ones too, and the unique values that it
-- brings or takes away. A value that the old and the new row both have is not among them.
unfoldable pub footprint : Schema → Rows → Change → List Cell
footprint schema rows (Put table row) = cells_of schema table row
footprint schema rows (Set table key patch) =
    Row table key ∷ replaced_cells schema table key patch (get rows (table, key))
footprint schema rows (Remove table key) = Row table key ∷ removed_cells schema table (get rows (table, key))
footprint schema rows (Wipe tables) = map Whole tables

-- The cell of the row that a change looks up before all else: the rest of its footprint depends on this row alone.
abbrev pub looked_up : Change → List Cell
looked_up (Put table row) = []
looked_up (Set table key patch) = Row table key ∷ []
looked_up (Remove table key) = Row table key ∷ []
looked_up (Wipe tables) = []

-- the cells of changes that are made one after another
abbrev pub held_cells : Schema → Rows → List Change → List Cell
held_cells schema rows [] = []
held_cells schema rows (c ∷ cs) = footprint schema rows c ++ held_cells schema (effect schema rows c) cs

-- a cell of the ones overlaps one of the others
abbrev pub shares_cell : List Cell → List Cell → Bool
shares_cell cells others = list_any (λ cell. list_any (overlaps cell) others) cells
