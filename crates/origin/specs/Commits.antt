-- The commits whose positions were published, and the position behind them.
--     PublishedCommits, commits_of      what a publisher knows: those that it published
--     LoadedCommits, loaded_of      what a loader knows: those that it has seen
--     published_after, position_after      what is published behind all these commits; the position
use Rattle.std.specs.Prelude.{ℕ, List, [], ◌∷◌, length}
use Rattle.atomic_table.specs.Seated.{TableId}
use Rattle.model.specs.Beginning.{last_end}
use Rattle.origin.specs.declared.position.Position.{Position}
use Rattle.origin.specs.declared.position.Published.{Published}

-- What a publisher knows: its origin, and the end LSNs of the commits, oldest first.
pub record PublishedCommits : Type 0 where
  pub origin : TableId
  pub ends : List ℕ

-- the publisher of an origin with these end LSNs
abbrev pub commits_of : TableId → List ℕ → PublishedCommits
commits_of origin ends = record { origin = origin; ends = ends }

-- What a loader knows: its origin, the skip of before the first commit, and the end LSNs of the commits that it has
-- seen, oldest first.
pub record LoadedCommits : Type 0 where
  pub origin : TableId
  pub skip : ℕ
  pub ends : List ℕ

-- the loader of an origin with this skip and these end LSNs
abbrev pub loaded_of : TableId → ℕ → List ℕ → LoadedCommits
loaded_of origin skip ends = record { origin = origin; skip = skip; ends = ends }

-- what is published behind all these commits: how many they are, and the end LSN of the last
abbrev pub published_after : List ℕ → Published
published_after ends = record { commits = length ends; end_lsn = last_end ends }

-- the skip behind these commits: that of before the first, and none behind it
abbrev pub skip_after : ℕ → List ℕ → ℕ
skip_after skip [] = skip
skip_after skip (end ∷ ends) = 0

-- the position behind all these commits
abbrev pub position_after : ℕ → List ℕ → Position
position_after skip ends = record { commits = length ends; end_lsn = last_end ends; skip = skip_after skip ends }
