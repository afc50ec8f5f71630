-- The end of a transaction, told to the tables in which it did something.
--     past_by      the commit that a ticket's transaction becomes
--     AreBefore      no commit of the first so many parts ends at this position or behind it
--     told_state      what lies under a table's lock, once the table was told of a commit
--     TellsState, AreTold      a table was told; the first so many were
use Rattle.std.specs.Prelude.{◌≡◌, ◌≢◌, ℕ, ◌<◌, ◌≤◌, ◌++◌, Option, Some, None, IfSome, length}
use Rattle.std.specs.FinMap.{get}
use Rattle.model.specs.declared.item.CommitInfo.{CommitInfo}
use Rattle.tokens.specs.Lists.{OpenLists, with_list}
use Rattle.world.specs.World.{Past}
use Rattle.world_parts.specs.Lines.{TableCommit, commit_at}
use Rattle.engine.specs.Events.{opened_by}
use Rattle.parted_store.specs.Lent.{OpenTicket}
use Rattle.table_locks.specs.Lending.{Guards, state_at}
use Rattle.table_locks.specs.TableStates.{TableState}

-- the commit that a ticket's transaction becomes
abbrev pub past_by : OpenTicket → CommitInfo → Past
past_by t its_info = record { xid = t.number; items = (opened_by t.events).items; info = its_info }

-- no commit of the first so many parts ends at this position or behind it
abbrev pub AreBefore : Guards → ℕ → ℕ → Type 0
AreBefore guards count end = (i : ℕ) → i < count → IfSome (state_at guards i) (λ s. s.last < end)

-- what lies under a table's lock, once the table was told of a commit
abbrev pub told_state : Past → TableState → TableState
told_state p s = record s { commits = record s.commits { list = s.commits.list ++ commit_at s.number p }; last = p.info.end }

-- a table was told of a commit, in both halves of its list
abbrev pub TellsState : Past → Option TableState → OpenLists TableCommit → Option TableState → OpenLists TableCommit → Type 0
TellsState p None tables new new_tables = ⊥
TellsState p (Some s) tables new new_tables =
    (get tables.lists s.number ≡ Some s.commits.list)
    × (new_tables ≡ with_list tables s.number (s.commits.list ++ commit_at s.number p)) × (new ≡ Some (told_state p s))

-- The first so many tables were told of a commit, and no other.
pub record AreTold (p : Past) (count : ℕ) (start : Guards) (old : OpenLists TableCommit) (guards : Guards) (new : OpenLists TableCommit) : Type 0 where
  pub told : (i : ℕ) (s : TableState) → i < count → state_at start i ≡ Some s → state_at guards i ≡ Some (told_state p s)
  pub left : (i : ℕ) → count ≤ i → state_at guards i ≡ state_at start i
  pub was : (i : ℕ) (s : TableState) → i < count → state_at start i ≡ Some s → get old.lists s.number ≡ Some s.commits.list
  pub lists : (i : ℕ) (s : TableState) → i < count → state_at start i ≡ Some s → get new.lists s.number ≡ Some (s.commits.list ++ commit_at s.number p)
  pub beside : (table : ℕ) → ((i : ℕ) (s : TableState) → i < count → state_at start i ≡ Some s → s.number ≢ table) → get new.lists table ≡ get old.lists table
  pub name : new.name ≡ old.name
  pub long : length guards ≡ length start
