-- Commits by their table, and the line of a part.
--     TableCommit      where the log goes on behind a commit, and what it changed in a table
--     commit_of, commit_at      changes as a commit; what a commit is in a table
--     line_at      the line of a table
--     HasLine      a part began with the table's rows, and its line is the world's there
--     KeepsLine, IsCommit      a world with the same start and commits; one behind a commit
--     commits_until, rows_until      the commits up to a position; the rows behind them
use Rattle.std.specs.Prelude.{◌≡◌, ℕ, nat_le, List, [], ◌∷◌, Some, filter, flat_map}
use Rattle.std.specs.FinMap.{get}
use Rattle.model.specs.declared.change.Change.{Change}
use Rattle.model.specs.declared.item.CommitInfo.{CommitInfo}
use Rattle.model.specs.Rows.{Rows, Schema}
use Rattle.model.specs.Effect.{serial}
use Rattle.world.specs.World.{Opened, Past, World, work_behind, changes_in}
use Rattle.world.specs.Steps.{Commits}
use Rattle.world_parts.specs.ByTable.{rows_at, changes_at}

-- a commit in one table
pub record TableCommit : Type 0 where
  -- where the log goes on behind it
  pub end : ℕ
  -- its changes there that survived
  pub changes : List Change

-- these changes as a commit; none where there are none
abbrev pub commit_of : ℕ → List Change → List TableCommit
commit_of end [] = []
commit_of end (c ∷ cs) = record { end = end; changes = c ∷ cs } ∷ []

-- what a commit is in a table
abbrev pub commit_at : ℕ → Past → List TableCommit
commit_at table p = commit_of p.info.end (changes_at table (work_behind p))

-- the line of a table: of these commits those that changed something there, in order
abbrev pub line_at : ℕ → List Past → List TableCommit
line_at table line = flat_map (commit_at table) line

-- The part began with the table's rows before the world's first commit, and in this table its line
-- is the world's.
pub record HasLine (table : ℕ) (w part : World) : Type 0 where
  pub start : part.start ≡ rows_at table w.start
  pub line : line_at table part.line ≡ line_at table w.line

-- a world with the same start and commits
pub record KeepsLine (w new : World) : Type 0 where
  pub start : new.start ≡ w.start
  pub line : new.line ≡ w.line

-- the world behind the commit of an open transaction
abbrev pub IsCommit : Schema → World → World → Type 0
IsCommit schema w new =
    (xid : ℕ) × (o : Opened) × (info : CommitInfo) × (get w.opened xid ≡ Some o)
    × Commits schema w xid o info new

-- the commits up to a position: those behind which the log goes on there or before
abbrev pub commits_until : ℕ → List Past → List Past
commits_until position line = filter (λ (p : Past). nat_le p.info.end position) line

-- the rows behind these
abbrev pub rows_until : Schema → World → ℕ → Rows
rows_until schema w position = serial schema w.start (changes_in (commits_until position w.line))
