-- What a reader sees of a store with a lock for each table: what it has seen of the store's line, and what lies under locks.
--     seen_world      the world of the commits that a line tells, with no transaction open
--     told_world      the same, where just those are open that are open in a part
--     HasState      the world has the part that lies under a table's lock
--     SeesMore      all that was seen is seen, and maybe more, of one line
--     rows_in      the rows of a table that were read
--     positions_of, positions_seen      where the log goes on behind the first so many entries, and commits, for each number of them
--     ReadsAt      the rows of a table after the commits that a line tells up to a position
--     IsLockedAt      the guard of a table lies in the place of its number
--     HasGuarded, HasEach      the world that a line tells has what lies under the lock of a guard; under each of these
use Rattle.std.proofs.Common.{Vec, Global}
use Rattle.std.specs.Prelude.{◌≡◌, ℕ, ◌<◌, List, ◌∷◌, Option, Some, None, Ok, IfSome, IsSomeAnd, length, map, slice_get}
use Rattle.std.specs.FinMap as finite
use Rattle.std.specs.List.Sorted.{IsStrictlyIncreasing}
use Rattle.model.specs.declared.row.Row.{Row}
use Rattle.model.specs.Beginning.{Begins}
use Rattle.model.specs.Rows.{Rows, Schema}
use Rattle.tokens.specs.Half.{Name, Half}
use Rattle.world.specs.Steps.{Fault, ReadsAfter}
use Rattle.world.specs.World.{OpenOnes, World}
use Rattle.engine.specs.declared.entry.Entry.{Entry}
use Rattle.engine.specs.declared.events.LineEvent.{LineEvent}
use Rattle.engine.specs.Events.{ends_in, world_of}
use Rattle.table_parts.specs.Part.{Part}
use Rattle.parted_store.specs.Lent.{HasTable}
use Rattle.table_locks.specs.Lending.{Guards, state_at}
use Rattle.table_locks.specs.TableStates.{TableState}

-- the world of the commits that the line tells, with no transaction open
abbrev pub seen_world : Schema → Rows → List LineEvent → World
seen_world schema start line = world_of schema start line finite.empty None

-- the transactions that are open in a part, if it is there
abbrev pub open_there : Option Part → OpenOnes
open_there None = finite.empty
open_there (Some p) = p.store.world.opened

-- the world of the commits that the line tells, where just those are open that are open in the part under a table's lock
abbrev pub told_world : Schema → Rows → List LineEvent → TableState → World
told_world schema start line s = record (seen_world schema start line) { opened = open_there s.part }

-- the world has the part that lies there
abbrev pub HasState : World → TableState → Type 0
HasState w s = IfSome s.part (HasTable w)

-- All that was seen is seen, and maybe more, of the line of this name. Each commit ends above the ones before it.
pub record SeesMore (name : Name) (old new : Half LineEvent) : Type 0 where
  pub name_is : new.name ≡ name
  pub begins : Begins old.list new.list
  pub rising : IsStrictlyIncreasing (0 ∷ ends_in new.list)

-- ---- answers

-- the rows of a table that were read
abbrev pub rows_in : Vec Row Global → List Row
rows_in rows = rows.items

-- where the log goes on behind the first so many entries, for each number of them: 0, and where each ends
abbrev pub positions_of : List Entry → List ℕ
positions_of entries = 0 ∷ map (λ (e : Entry). e.end) entries

-- behind the first so many of the commits that the line tells
abbrev pub positions_seen : List LineEvent → List ℕ
positions_seen line = 0 ∷ ends_in line

-- the rows of a table after the commits that the line tells up to a position, in key order
abbrev pub ReadsAt : Schema → Rows → List LineEvent → ℕ → ℕ → List Row → Type 0
ReadsAt schema start line table position rows =
    (count : ℕ) × (slice_get (positions_seen line) count ≡ Some position)
    × ReadsAfter {E = Fault} schema (seen_world schema start line) table count (Ok rows)

-- ---- several tables

-- the guard of the table lies in the place of its number
abbrev pub IsLockedAt : Guards → ℕ → Type 0
IsLockedAt guards table = IsSomeAnd (state_at guards table) (λ s. s.number ≡ table)

-- the world that the line tells has what lies under the lock of a guard, if there is one
abbrev pub HasGuarded : Schema → Rows → List LineEvent → Option TableState → Type 0
HasGuarded schema start line guarded = IfSome guarded (λ s. HasState (told_world schema start line s) s)

-- under the lock of each guard
abbrev pub HasEach : Schema → Rows → List LineEvent → Guards → Type 0
HasEach schema start line guards = (i : ℕ) → i < length guards → HasGuarded schema start line (state_at guards i)
