-- What lies under the lock of a table.
--     TableState      a table's part, unless it is lent, what the journal knows of its commits, and what stopped the store, as the table knows
--     IsKept      what is kept of the part of a table
--     IsListed      the commits of the table that the journal's part knows are those of its part
--     Fits, IsTableState      a part may lie there; what the type keeps
--     StaysFit      behind a call that is no commit it may lie there still
--     IsLent      the place, while its part is lent
use Rattle.std.specs.Prelude.{◌≡◌, ℕ, ◌≤◌, Option, None, IfSome}
use Rattle.model.specs.Rows.{Rows, Schema}
use Rattle.tokens.specs.Half.{Name}
use Rattle.tokens.specs.Lists.{OpenList}
use Rattle.world.specs.World.{Stop, starting}
use Rattle.world_parts.specs.ByTable.{rows_at}
use Rattle.world_parts.specs.Lines.{TableCommit, line_at}
use Rattle.world_parts.specs.Marks.{HasPart}
use Rattle.world_parts.specs.Reached.{PartReaches}
use Rattle.world_parts.specs.Sound.{IsSound}
use Rattle.table_parts.specs.Part.{Part, last_commit_end}
use Rattle.parted_store.specs.KeepsSound.{with_stop}

-- what lies under a table's lock, as its holder sees it
pub record TableState : Type 0 where
  -- of the table
  pub number : ℕ
  -- none while it is lent
  pub part : Option Part
  -- the table's commits, as the journal's part knows them
  pub commits : OpenList TableCommit
  -- what stopped the store: the clash of a change of the table, or the waiting
  pub stopped : Option Stop
  -- no commit of the part ends behind this
  pub last : ℕ

-- Its tickets have the name of its table's, its tables these keys; it began with the table's start rows, and parts of steps
-- lead from there to it. It has nothing of another table.
pub record IsKept (shares : ℕ → Name) (schema : Schema) (start : Rows) (p : Part) : Type 0 where
  pub tickets : p.store.tickets ≡ shares p.number
  pub schema_is : p.store.schema ≡ schema
  pub start_is : p.store.world.start ≡ rows_at p.number start
  pub own : HasPart p.number p.store.world p.store.world
  pub reached : ∥ PartReaches schema p.number (starting (rows_at p.number start)) p.store.world ∥₁

-- The list is the table's of the journal's book, and has the commits of the part.
pub record IsListed (tables : Name) (p : Part) (commits : OpenList TableCommit) : Type 0 where
  pub name : commits.name ≡ tables
  pub number : commits.number ≡ p.number
  pub list : commits.list ≡ line_at p.number p.store.world.line

-- The part is the table's, and as a world that this stopped it is sound.
pub record Fits (shares : ℕ → Name) (tables : Name) (schema : Schema) (start : Rows) (s : TableState) (p : Part) : Type 0 where
  pub number : p.number ≡ s.number
  pub kept : IsKept shares schema start p
  pub listed : IsListed tables p s.commits
  pub sound : IsSound schema (with_stop s.stopped p)
  pub last : last_commit_end p ≤ s.last

-- what the type of a place keeps
pub record IsTableState (shares : ℕ → Name) (tables : Name) (schema : Schema) (start : Rows) (s : TableState) : Type 0 where
  pub name : s.commits.name ≡ tables
  pub part : IfSome s.part (Fits shares tables schema start s)

-- A part behind a call that is no commit: it may lie where it lay.
pub record StaysFit (shares : ℕ → Name) (tables : Name) (schema : Schema) (start : Rows) (p q : Part) : Type 0 where
  pub number : q.number ≡ p.number
  pub kept : IsKept shares schema start q
  pub listed : (commits : OpenList TableCommit) → IsListed tables p commits → IsListed tables q commits
  pub end : last_commit_end q ≡ last_commit_end p

-- the place, while its part is lent
abbrev pub IsLent : TableState → TableState → Type 0
IsLent s lent = lent ≡ record s { part = None }
