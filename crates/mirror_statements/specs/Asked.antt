-- The statements that commits ask for.
--     sql_value, sql_column      a value, and a column's, as SQL has it
--     sql_patch, patch_values      what an update does to a column, and to all of a row
--     Texts, on_table      the texts for a table; the statements by those of a table
--     asked_by_change, asked_by      the statements for a change, and for commits
use Rattle.std.specs.Prelude.{ℕ, pos, if◌then◌else◌, List, [], ◌∷◌, ◌++◌, map, flat_map, Option, Some, None, slice_get}
use Rattle.std.specs.Int.{w64, cast_signed}
use Rattle.model.specs.declared.value.Value.{Value}
use Rattle.model.specs.declared.value.Value.TheVariants.{Int, Text, Bool}
use Rattle.model.specs.declared.patch.ColumnPatch.{ColumnPatch}
use Rattle.model.specs.declared.patch.ColumnPatch.TheVariants as patch
use Rattle.model.specs.declared.change.Change.{Change}
use Rattle.model.specs.declared.change.Change.TheVariants.{Put, Set, Remove, Wipe}
use Rattle.world.specs.World.{Entry}
use Rattle.sqlite_value.specs.declared.value.Value.{Value as SqlValue}
use Rattle.sqlite_value.specs.declared.value.Value.TheVariants as sql
use Rattle.sqlite.specs.Order.{Row}

-- A truth is 1 or 0.
abbrev pub sql_value : Value → SqlValue
sql_value (Int n) = sql.Int n
sql_value (Text t) = sql.Text t
sql_value (Bool b) = sql.Int (if b then pos 1 else pos 0)

-- a column's value, or null
abbrev pub sql_column : Option Value → SqlValue
sql_column None = sql.Null
sql_column (Some v) = sql_value v

-- What an update does to a column: 1 and the value where it writes one, else 0 and null.
abbrev pub sql_patch : ColumnPatch → Row
sql_patch patch.Keep = sql.Int (pos 0) ∷ sql.Null ∷ []
sql_patch patch.Null = sql.Int (pos 1) ∷ sql.Null ∷ []
sql_patch (patch.Value v) = sql.Int (pos 1) ∷ sql_value v ∷ []

-- to all columns
abbrev pub patch_values : List ColumnPatch → Row
patch_values = flat_map sql_patch

-- the texts for a table: they insert a row, update the one at a key, delete it, and delete all
pub record Texts : Type 0 where
  pub insert : List ℕ
  pub update : List ℕ
  pub delete : List ℕ
  pub clear : List ℕ

-- a statement by the texts of a table; none where the table isn't there
abbrev pub on_table : List Texts → ℕ → (Texts → List ℕ × Row) → List (List ℕ × Row)
on_table tables table make = elim (slice_get tables table) as (λ _. List (List ℕ × Row)) [ Some t ↦ make t ∷ [] | None ↦ [] ]

-- those that clear tables
abbrev pub asked_by_clear : List Texts → List ℕ → List (List ℕ × Row)
asked_by_clear tables cleared = flat_map (λ table. on_table tables table (λ t. (t.clear, []))) cleared

-- the statements for a change
abbrev pub asked_by_change : List Texts → Change → List (List ℕ × Row)
asked_by_change tables (Put table row) = on_table tables table (λ t. (t.insert, map sql_column row))
asked_by_change tables (Set table key columns) = on_table tables table (λ t. (t.update, patch_values columns ++ map sql_value key))
asked_by_change tables (Remove table key) = on_table tables table (λ t. (t.delete, map sql_value key))
asked_by_change tables (Wipe cleared) = asked_by_clear tables cleared

-- those for the changes of commits
abbrev pub asked_by_commits : List Texts → List Entry → List (List ℕ × Row)
asked_by_commits tables commits = flat_map (λ (e : Entry). flat_map (asked_by_change tables) e.changes) commits

-- Those for commits: for the changes of each, and then one by the text that sets the position, to the end of the last.
abbrev pub asked_by : List Texts → List ℕ → List Entry → ℕ → List (List ℕ × Row)
asked_by tables position commits end = asked_by_commits tables commits ++ (position, sql.Int (cast_signed w64 end) ∷ []) ∷ []
