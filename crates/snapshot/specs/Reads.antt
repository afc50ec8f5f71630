-- What a reader of committed rows has seen, and what its answers tell.
--     Sight      what a reader knows: the keys of the tables, their start rows, and what it has seen since
--     commits_seen, world_seen      the commits that it has seen; the world of these, with no transaction open
--     positions_seen      where the log goes on behind the first so many of these, for each number of them
--     SeesMore      it has seen all that it had seen, and maybe more
--     ReadsTable, ReadsTables      the rows of a table after all commits seen; those of several
--     ReadsAt      the rows of a table after the commits seen up to a position
--     IsRefused, IsRefusedOf, IsRefusedAt      why a read was refused, and what has been seen then
use Rattle.std.specs.Prelude.{◌≡◌, ℕ, ◌<◌, ◌≤◌, List, All, length, map}
use Rattle.std.specs.List.{Contains}
use Rattle.model.specs.declared.row.Row.{Row}
use Rattle.model.specs.Rows.{Rows, Schema}
use Rattle.model.specs.TableRows.{rows_of_table}
use Rattle.tokens.specs.Half.{Half}
use Rattle.world.specs.World.{Past, World}
use Rattle.engine.specs.declared.events.LineEvent.{LineEvent}
use Rattle.engine.specs.Events.{commits_in}
use Rattle.origin.specs.Commits.{LoadedCommits}
use Rattle.table_locks.specs.Reading.{seen_world, SeesMore as LineSeesMore, positions_seen as line_positions, ReadsAt as LineReadsAt}
use Rattle.snapshot.specs.declared.fault.ReadFault.{ReadFault}
use Rattle.snapshot.specs.declared.fault.ReadFault.TheVariants.{UnknownTable, PositionUnknown, OutOfMemory}

-- What a reader knows.
pub record Sight : Type 0 where
  -- the keys of the tables, and their rows before the first commit
  pub schema : Schema
  pub start : Rows
  -- what it has seen happen to the store's transactions
  pub line : Half LineEvent
  -- the published commits that it has seen
  pub published : LoadedCommits

-- the commits that it has seen
abbrev pub commits_seen : Sight → List Past
commits_seen s = commits_in s.line.list

-- the world of these commits, with no transaction open
abbrev pub world_seen : Sight → World
world_seen s = seen_world s.schema s.start s.line.list

-- Where the log goes on behind the first so many of these, for each number of them: 0 before the first, else where the
-- last of them ends.
abbrev pub positions_seen : Sight → List ℕ
positions_seen s = line_positions s.line.list

-- It has seen all that it had seen, and maybe more, and each commit ends above the ones before it. Of the published
-- commits it has seen the same.
pub record SeesMore (old new : Sight) : Type 0 where
  pub line : LineSeesMore old.line.name old.line new.line
  pub beside : new ≡ record old { line = new.line }

-- ---- answers

-- the rows of a table after all commits seen, in key order
abbrev pub ReadsTable : Sight → ℕ → List Row → Type 0
ReadsTable s table rows = rows ≡ rows_of_table (world_seen s).committed table

-- those of several, in the order in which they are named
abbrev pub ReadsTables : Sight → List ℕ → List (List Row) → Type 0
ReadsTables s tables rows = rows ≡ map (rows_of_table (world_seen s).committed) tables

-- the rows of a table after the commits seen up to a position, in key order
abbrev pub ReadsAt : Sight → ℕ → ℕ → List Row → Type 0
ReadsAt s table position rows = LineReadsAt s.schema s.start s.line.list table position rows

-- The table isn't there, or memory was refused; nothing more was seen.
abbrev pub IsRefused : Sight → Sight → ℕ → ReadFault → Type 0
IsRefused old new table UnknownTable = (length old.schema ≤ table) × (new ≡ old)
IsRefused old new table PositionUnknown = ⊥
IsRefused old new table OutOfMemory = (table < length old.schema) × (new ≡ old)

-- One of the tables isn't there, or memory was refused; nothing more was seen.
abbrev pub IsRefusedOf : Sight → Sight → List ℕ → ReadFault → Type 0
IsRefusedOf old new tables UnknownTable = ((table : ℕ) × Contains tables table × (length old.schema ≤ table)) × (new ≡ old)
IsRefusedOf old new tables PositionUnknown = ⊥
IsRefusedOf old new tables OutOfMemory = All (λ table. table < length old.schema) tables × (new ≡ old)

-- The table isn't there, no commit that is seen now ends at the position, or memory was refused.
abbrev pub IsRefusedAt : Sight → Sight → ℕ → ℕ → ReadFault → Type 0
IsRefusedAt old new table position UnknownTable = (length old.schema ≤ table) × (new ≡ old)
IsRefusedAt old new table position PositionUnknown =
    (table < length old.schema) × SeesMore old new × ¬ Contains (positions_seen new) position
IsRefusedAt old new table position OutOfMemory = (table < length old.schema) × (new ≡ old)
