-- A store as its callers see it.
--     Engine      its tables' keys, its world, the name of its tickets, and its line
--     world_in, engine_in      the world of a store's parts, and what callers see of them
--     entry_in      an entry of the journal, as the world tells it
--     told_start, start_in      the tables at the start, as they were told; their rows
--     AreTakenBack      what each entry keeps beside its changes takes these back
--     edits_behind      what all of some entries keep takes back
--     Represents      what the type of a store keeps
--     IsOtherwiseSame      another world, with the same keys and names
use Rattle.std.specs.Prelude.{◌≡◌, ℕ, ◌+◌, ◌≤◌, [], ◌∷◌, ◌++◌, List, map, is_some, vec_len, vec_capacity}
use Rattle.std.specs.List.Sorted.{IsStrictlyIncreasing}
use Rattle.std.specs.FinMap.{empty, get}
use Rattle.std.specs.BTreeMap.{btree_map_len}
use Rattle.model.specs.Rows.{Rows, Schema}
use Rattle.model.specs.Effect.{Edits, all_back, serial}
use Rattle.indexes.specs.Content.{Content}
use Rattle.change.specs.Inverse.{edits_of}
use Rattle.tokens.specs.Half.{Name, Half}
use Rattle.world.specs.World.{World, Entry, journal}
use Rattle.engine.specs.declared.entry.Entry as entry_type
use Rattle.engine.specs.declared.events.LineEvent.{LineEvent}
use Rattle.engine.specs.declared.store.Store.TheInside.{Inside}
use Rattle.engine.specs.Events.{ends_in, is_open_in, world_of}
use Rattle.live_tables.specs.Answers.{told_stop}
use Rattle.live_tables.specs.Represents.{Represents as LiveRepresents}

-- a store as its callers see it
pub record Engine : Type 0 where
  pub schema : Schema
  pub world : World
  -- the name of its tickets
  pub tickets : Name
  -- what happened to its transactions, as its line knows it
  pub line : Half LineEvent

-- the tables at the start, as they were told
abbrev pub told_start : List Content → Content
told_start [] = record { schema = []; rows = empty; room = [] }
told_start (tables ∷ more) = tables

-- their rows
abbrev pub start_in : Inside → Rows
start_in s = (told_start s.start.list).rows

-- the world of a store's parts
abbrev pub world_in : Inside → World
world_in s = world_of s.live.tables.schema (start_in s) s.line.list s.book.lists (told_stop s.live.stopped)

-- what callers see of them
abbrev pub engine_in : Inside → Engine
engine_in s = record { schema = s.live.tables.schema; world = world_in s; tickets = s.book.name; line = s.line }

-- an entry of the journal, as the world tells it
abbrev pub entry_in : entry_type.Entry → Entry
entry_in e = record { xid = e.xid; changes = e.changes; commit = e.commit; end = e.end }

-- What each entry keeps, put back, gives the rows before its changes again.
abbrev pub AreTakenBack : Schema → Rows → List entry_type.Entry → Type 0
AreTakenBack schema rows [] = Unit {0}
AreTakenBack schema rows (e ∷ es) =
    (all_back (serial schema rows e.changes) (map edits_of e.inverses.inverses) ≡ rows) × AreTakenBack schema (serial schema rows e.changes) es

-- what all of these keep, the oldest first
abbrev pub edits_behind : List entry_type.Entry → List Edits
edits_behind [] = []
edits_behind (e ∷ es) = map edits_of e.inverses.inverses ++ edits_behind es

-- What the type of a store keeps: its live part is tied to its world, the journal is that of the world, with room for
-- an entry of each open transaction, the ends of its commits rise, what its entries keep takes their changes back, and the
-- line tells which transactions are open.
pub record Represents (s : Inside) : Type 0 where
  pub tied : LiveRepresents (world_in s) s.live
  pub told : map entry_in s.journal.items ≡ journal (world_in s)
  pub room : vec_len s.journal + btree_map_len s.live.transactions ≤ vec_capacity s.journal
  pub rising : IsStrictlyIncreasing (0 ∷ ends_in s.line.list)
  pub before : AreTakenBack s.live.tables.schema (start_in s) s.journal.items
  pub opened : (xid : ℕ) → is_open_in s.line.list xid ≡ is_some (get s.book.lists xid)

-- another world, with the same keys and names
pub record IsOtherwiseSame (old new : Engine) : Type 0 where
  pub schema : new.schema ≡ old.schema
  pub tickets : new.tickets ≡ old.tickets
  pub line : new.line.name ≡ old.line.name
