-- The end of a store.
--     AreLists      what each table's list of commits has, once nobody comes any more
--     rows_after      the rows after these commits
--     AreMoved      the rows of the tables from this number on are those after the commits
use Rattle.std.specs.Prelude.{◌≡◌, ℕ, ◌≤◌, List, [], Some, length}
use Rattle.std.specs.FinMap.{get}
use Rattle.model.specs.Effect.{serial}
use Rattle.model.specs.Rows.{Rows, Schema}
use Rattle.tokens.specs.Lists.{OpenLists}
use Rattle.world.specs.World.{Past, changes_in}
use Rattle.world_parts.specs.ByTable.{rows_at}
use Rattle.world_parts.specs.Lines.{TableCommit, line_at}

-- Each table's list in the book is what these commits are in the table, and they changed nothing beyond the tables.
pub record AreLists (schema : Schema) (book : OpenLists TableCommit) (commits : List Past) : Type 0 where
  pub lists : (table : ℕ) (list : List TableCommit) → get book.lists table ≡ Some list → list ≡ line_at table commits
  pub beyond : (table : ℕ) → length schema ≤ table → line_at table commits ≡ []

-- the rows after these commits
abbrev pub rows_after : Schema → Rows → List Past → Rows
rows_after schema start commits = serial schema start (changes_in commits)

-- the rows of the tables from this number on are those after the commits
abbrev pub AreMoved : Schema → Rows → List Past → ℕ → Rows → Type 0
AreMoved schema start commits number rows = (table : ℕ) → number ≤ table → rows_at table rows ≡ rows_at table (rows_after schema start commits)
