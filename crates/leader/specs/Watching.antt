-- Those who watch a run, and what their readers may have seen of it.
--     IsUnseen, KnowsStart      a reader has seen nothing yet; a watcher knows each such reader
--     IsSightOf, KnowsRun      a reader has seen a part of a run; a watcher knows one that has
--     IsSightAlong, KnowsAlong      the same by a store's line, and by the positions that were published
use Rattle.std.specs.Prelude.{◌≡◌, ℕ, List, [], map}
use Rattle.model.specs.Rows.{Rows, Schema}
use Rattle.model.specs.Beginning.{Begins}
use Rattle.world.specs.World.{entry_of}
use Rattle.engine.specs.declared.entry.Entry.{Entry}
use Rattle.engine.specs.declared.events.LineEvent.{LineEvent}
use Rattle.engine.specs.Engine.{entry_in}
use Rattle.run.specs.declared.outcome.Outcome.{Outcome}
use Rattle.snapshot.specs.Reads.{Sight, commits_seen}

-- A reader of tables with these keys and start rows has seen no commit, and none that was published. Before the first
-- a position has this skip.
pub record IsUnseen (keys : Schema) (rows : Rows) (its_skip : ℕ) (s : Sight) : Type 0 where
  pub schema : s.schema ≡ keys
  pub start : s.start ≡ rows
  pub line : s.line.list ≡ []
  pub skip : s.published.skip ≡ its_skip
  pub published : s.published.ends ≡ []

-- A reader of these tables has seen commits of a run, the first so many, and those that were published are the first so
-- many too.
pub record IsSightOf (keys : Schema) (rows : Rows) (its_skip : ℕ) (o : Outcome) (s : Sight) : Type 0 where
  pub schema : s.schema ≡ keys
  pub start : s.start ≡ rows
  pub commits : Begins (map entry_of (commits_seen s)) (map entry_in o.journal.items)
  pub skip : s.published.skip ≡ its_skip
  pub published : Begins s.published.ends (map (λ (e : Entry). e.end) o.journal.items)

-- The same, by the line of a store and by the ends that were published.
pub record IsSightAlong (keys : Schema) (rows : Rows) (its_skip : ℕ) (line : List LineEvent) (ends : List ℕ) (s : Sight) : Type 0 where
  pub schema : s.schema ≡ keys
  pub start : s.start ≡ rows
  pub commits : Begins s.line.list line
  pub skip : s.published.skip ≡ its_skip
  pub published : Begins s.published.ends ends

module _ {V : Type 0} (knows : V → Sight → Type 0) (keys : Schema) (rows : Rows) (skip : ℕ) where
  -- a watcher knows each reader that has seen nothing yet
  abbrev pub KnowsStart : V → Type 0
  KnowsStart w = (s : Sight) → IsUnseen keys rows skip s → knows w s

  -- a watcher knows a reader that has seen a part of the run
  abbrev pub KnowsRun : Outcome → V → Type 0
  KnowsRun o w = ∥ ((s : Sight) × knows w s × IsSightOf keys rows skip o s) ∥₁

  -- the same along a line
  abbrev pub KnowsAlong : List LineEvent → List ℕ → V → Type 0
  KnowsAlong line ends w = ∥ ((s : Sight) × knows w s × IsSightAlong keys rows skip line ends s) ∥₁
