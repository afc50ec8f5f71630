-- A truncate of several tables, whose parts are lent from under their locks.
--     IsTruncate      the change is a truncate
--     wipes_table      it names this table
--     AreRunning      none of the first so many tables knows that the store is stopped
--     KnownEach      each of the parts is of a table of the store
--     StayRunning      behind a call of a store that nothing stopped each of the parts may be put back
--     StandEach      in each its transaction has done what the share of its table tells
--     HaveCome      the transaction came to the first so many of them
use Rattle.std.specs.Prelude.{◌≡◌, ℕ, ◌<◌, Bool, false, List, None, Some, IfSome, IsSome, IsSomeAnd, length, slice_get}
use Rattle.model.specs.declared.change.Change.{Change}
use Rattle.model.specs.declared.change.Change.TheVariants.{Put, Set, Remove, Wipe}
use Rattle.model.specs.Rows.{Rows, Schema}
use Rattle.tokens.specs.Half.{Name}
use Rattle.world_parts.specs.ByTable.{names_table}
use Rattle.table_parts.specs.Part.{Part}
use Rattle.parted_store.specs.KeepsSound.{KeepsSoundRunning}
use Rattle.parted_store.specs.Lent.{Stands}
use Rattle.parted_store.specs.Shares.{Shares, share_of}
use Rattle.table_locks.specs.Lending.{Guards, state_at}
use Rattle.table_locks.specs.TableStates.{StaysFit}

-- the change is a truncate, of whatever tables
abbrev pub IsTruncate : Change → Type 0
IsTruncate c = (tables : List ℕ) × (c ≡ Wipe tables)

-- the change is a truncate that names the table
abbrev pub wipes_table : Change → ℕ → Bool
wipes_table (Put at row) table = false
wipes_table (Set at key patch) table = false
wipes_table (Remove at key) table = false
wipes_table (Wipe tables) table = names_table tables table

-- none of the first so many tables knows that the store is stopped
abbrev pub AreRunning : Guards → ℕ → Type 0
AreRunning guards count = (i : ℕ) → i < count → IfSome (state_at guards i) (λ s. s.stopped ≡ None)

-- each of the parts is of a table of the store
abbrev pub KnownEach : Schema → List Part → Type 0
KnownEach schema parts = (i : ℕ) (p : Part) → slice_get parts i ≡ Some p → p.number < length schema

-- Each of the parts behind a call that is no commit may lie where it lay, in a store that nothing stopped.
pub record StayRunning (shares : ℕ → Name) (tables : Name) (schema : Schema) (start : Rows) (parts new : List Part) : Type 0 where
  pub stay : (i : ℕ) (p : Part) → slice_get parts i ≡ Some p → IsSomeAnd (slice_get new i) (StaysFit shares tables schema start p)
  pub sound : (i : ℕ) (p : Part) → slice_get parts i ≡ Some p → IsSomeAnd (slice_get new i) (KeepsSoundRunning p)
  pub long : length new ≡ length parts

-- in each the transaction of the share of its table has done just what the share tells
abbrev pub StandEach : List Part → Shares → Type 0
StandEach parts all = (i : ℕ) (p : Part) → slice_get parts i ≡ Some p → Stands p all

-- The transaction of these shares came to the first so many of the parts, which may be put back, as all may.
pub record HaveCome (shares : ℕ → Name) (tables : Name) (schema : Schema) (start : Rows) (parts : List Part) (count : ℕ) (new : List Part) (all : Shares) : Type 0 where
  pub still : StayRunning shares tables schema start parts new
  pub alone : (i : ℕ) (p : Part) → i < count → slice_get new i ≡ Some p → IsSome (share_of all p.number)
  pub stand : (i : ℕ) (p : Part) → i < count → slice_get new i ≡ Some p → Stands p all
