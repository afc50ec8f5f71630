-- What of a run's commits a SQLite file has.
--     Follows      a connection was led on by commits, some of them at a time
--     HasFollowed      a connection has followed commits since some state of it, where its disk is clean
--     HasMade      tables from which lines are made are those behind the commits
--     IsUpTo      what a reader has seen of a run was kept
use Rattle.std.specs.Prelude.{◌≡◌, ℕ, List, [], ◌++◌, length, map, flat_map}
use Rattle.sqlite.specs.Store.{Ghosts}
use Rattle.sqlite.specs.Held.{Held, state}
use Rattle.sqlite.specs.State.{HasCleanDisk}
use Rattle.sql_batch.specs.Batches.{RunInOne}
use Rattle.model.specs.Rows.{Rows}
use Rattle.model.specs.Effect.{serial}
use Rattle.indexes.specs.Content.{Content}
use Rattle.world.specs.World.{Entry, entry_of}
use Rattle.snapshot.specs.Reads.{Sight, commits_seen}
use Rattle.mirror_statements.specs.Asked.{Texts, asked_by}

-- A connection was led on from one state to another by these commits: some of them at a time, each time by the
-- statements that they and their end ask for, in one transaction, behind which its committed database is the one that
-- this leaves.
pub data Follows {S : Type 0} (g : Ghosts S) (tables : List Texts) (position : List ℕ) (first : Held S) : List Entry → Held S → Type 0 where
  none : Follows g tables position first [] first
  some : (before more : List Entry) (end : ℕ) (old new : Held S) → Follows g tables position first before old
      → RunInOne g (asked_by tables position more end) old (state g new).committed
      → Follows g tables position first (before ++ more) new

-- A connection whose disk is clean was led here by these commits, since it began.
abbrev pub HasFollowed : {S : Type 0} → Ghosts S → List Texts → List ℕ → List Entry → Held S → Type 0
HasFollowed g tables position commits now = HasCleanDisk (state g now) → (first : Held _) × Follows g tables position first commits now

-- The tables from which lines are made are those that these commits left, since it began.
abbrev pub HasMade : List Entry → Content → Type 0
HasMade commits tables = (first : Rows) × (tables.rows ≡ serial tables.schema first (flat_map (λ (e : Entry). e.changes) commits))

-- What a reader has seen of a run was kept, all of it, and that are so many commits.
abbrev pub IsUpTo : {K : Type 0} → (K → List Entry → Type 0) → K → ℕ → Sight → Type 0
IsUpTo has_kept keep commits s = has_kept keep (map entry_of (commits_seen s)) × (commits ≡ length (commits_seen s))
