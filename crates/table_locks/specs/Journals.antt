-- What lies under the journal's lock.
--     JournalState      the journal's part, and a half of each table's list of commits
--     IsJournal      what the type keeps: each table's list is the table's part of the journal, which has nothing beyond the tables
use Rattle.std.specs.Prelude.{◌≡◌, ℕ, ◌≤◌, List, [], Some, length}
use Rattle.std.specs.FinMap.{get}
use Rattle.model.specs.Rows.{Schema}
use Rattle.tokens.specs.Half.{Name}
use Rattle.tokens.specs.Lists.{OpenLists}
use Rattle.world_parts.specs.Lines.{TableCommit, line_at}
use Rattle.engine.specs.Events.{commits_in}
use Rattle.parted_store.specs.Journal.{JournalPart}

-- the journal's part, with a half of each table's list of commits, as its holder sees them
pub record JournalState : Type 0 where
  pub part : JournalPart
  pub tables : OpenLists TableCommit

-- Its line and its book have these names, each table's list there is the table's part of the line, and no commit changed
-- anything beyond the tables.
pub record IsJournal (its_line tables : Name) (schema : Schema) (j : JournalState) : Type 0 where
  pub line : j.part.line.name ≡ its_line
  pub name : j.tables.name ≡ tables
  pub lists : (table : ℕ) (list : List TableCommit) → get j.tables.lists table ≡ Some list → list ≡ line_at table (commits_in j.part.line.list)
  pub beyond : (table : ℕ) → length schema ≤ table → line_at table (commits_in j.part.line.list) ≡ []
