-- Rows, changes and cells by their table.
--     rows_at      the rows of one table
--     names_table      a table is among those of a truncate
--     change_at, changes_at      what a change is in one table; what changes are
--     IsOf, IsIn, AreOf      rows, a change, cells that are of one table alone
--     AreSameIn      two states of the rows agree in a table
use Rattle.std.specs.Prelude.{◌≡◌, ◌≢◌, ℕ, ◌==◌, Bool, List, [], ◌∷◌, None, filter, flat_map, if◌then◌else◌}
use Rattle.std.specs.List.{AllByRecursion, list_any}
use Rattle.std.specs.FinMap.{get, entries, from_entries}
use Rattle.model.specs.declared.key.Key.{Key}
use Rattle.model.specs.declared.cell.Cell.{Cell}
use Rattle.model.specs.declared.change.Change.{Change}
use Rattle.model.specs.declared.change.Change.TheVariants.{Put, Set, Remove, Wipe}
use Rattle.model.specs.Rows.{Place, Rows}
use Rattle.model.specs.TableRows.{is_in_table}
use Rattle.model.specs.Cells.{table_of}

-- the rows of one table
abbrev pub rows_at : ℕ → Rows → Rows
rows_at table rows = from_entries (filter (is_in_table table) (entries rows))

-- the table is among these
abbrev pub names_table : List ℕ → ℕ → Bool
names_table tables table = list_any (λ other. table == other) tables

-- this alone, where the test says so
abbrev pub only_if : {X : Type 0} → Bool → X → List X
only_if b x = if b then x ∷ [] else []

-- What a change is in one table: the change where it names the table alone, a truncate of just this one, or nothing.
abbrev pub change_at : ℕ → Change → List Change
change_at table (Put at row) = only_if (at == table) (Put at row)
change_at table (Set at key patch) = only_if (at == table) (Set at key patch)
change_at table (Remove at key) = only_if (at == table) (Remove at key)
change_at table (Wipe tables) = only_if (names_table tables table) (Wipe (table ∷ []))

-- what changes are in one table, one after another
abbrev pub changes_at : ℕ → List Change → List Change
changes_at table cs = flat_map (change_at table) cs

-- all of the rows stand in the table
abbrev pub IsOf : ℕ → Rows → Type 0
IsOf table rows = (p : Place) → p.0 ≢ table → get rows p ≡ None

-- the change names the table, and no other
abbrev pub IsIn : ℕ → Change → Type 0
IsIn table c = change_at table c ≡ c ∷ []

-- each of the cells lies in the table
abbrev pub AreOf : ℕ → List Cell → Type 0
AreOf table cells = AllByRecursion (λ (cell : Cell). table_of cell ≡ table) cells

-- the same rows stand in the table
abbrev pub AreSameIn : ℕ → Rows → Rows → Type 0
AreSameIn table rows others = (key : Key) → get rows (table, key) ≡ get others (table, key)
