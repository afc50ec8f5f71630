-- Parts of several tables, lent from under their locks.
--     Guards, state_of, state_at      guards of locks, each in its place; what lies under one
--     AreEmpty, NumberedApart      from under the locks of the first so many places parts are lent; these are of different tables
--     CoversAlone      each of the parts is one of a ticket's shares
--     KeptEach      what is kept of a part is so of each
--     AreMet      they are those of a ticket's shares, and its transaction has done in each what its share tells
--     StayEach      behind a call that is no commit each may be put back
--     FitsAt, FitEach      a part may lie where the guard of its place is; so it is of each
--     AreLent      the parts of just these tables, in the catalog's order, each from under its lock
--     LendsOne      the part of one table more is lent
use Rattle.std.specs.Prelude.{◌≡◌, ◌≢◌, ℕ, ◌<◌, ◌≤◌, Bool, true, List, [], ◌∷◌, ◌++◌, Option, Some, None, IsSome, IsSomeAnd, length, option_map, slice_get, slice_index_or}
use Rattle.std.specs.declared.sync.MutexGuard.{MutexGuard}
use Rattle.std.specs.Sync.Mutex.{mutex_guard_value}
use Rattle.model.specs.Rows.{Rows, Schema}
use Rattle.tokens.specs.Half.{Name}
use Rattle.table_parts.specs.Part.{Part}
use Rattle.parted_store.specs.EachPart.{AreApart, Covers}
use Rattle.parted_store.specs.KeepsSound.{KeepsSound}
use Rattle.parted_store.specs.Lent.{Stands}
use Rattle.parted_store.specs.Shares.{Shares, share_of}
use Rattle.table_locks.specs.TableStates.{TableState, IsKept, Fits, StaysFit}

-- guards of locks, each in its place
abbrev pub Guards : Type 0
Guards = List (Option (MutexGuard TableState))

-- what lies under the lock of a guard, if there is one
abbrev pub state_of : Option (MutexGuard TableState) → Option TableState
state_of guard = option_map mutex_guard_value guard

-- under that of the place
abbrev pub state_at : Guards → ℕ → Option TableState
state_at guards i = state_of (slice_index_or guards i None)

-- from under the locks of the first so many places the parts are lent
abbrev pub AreEmpty : Guards → ℕ → Type 0
AreEmpty guards count = (i : ℕ) → i < count → (s : TableState) × (state_at guards i ≡ Some s) × (s.part ≡ None)

-- these are of different tables
abbrev pub NumberedApart : Guards → ℕ → Type 0
NumberedApart guards count =
    (i j : ℕ) (s t : TableState) → i < j → j < count → state_at guards i ≡ Some s → state_at guards j ≡ Some t → s.number ≢ t.number

-- each of the parts is of a table in which the ticket has a share
abbrev pub CoversAlone : List Part → Shares → Type 0
CoversAlone parts all = (i : ℕ) (p : Part) → slice_get parts i ≡ Some p → IsSome (share_of all p.number)

-- of each of the parts that is so which is kept of a part
abbrev pub KeptEach : (ℕ → Name) → Schema → Rows → List Part → Type 0
KeptEach shares schema start parts = (i : ℕ) (p : Part) → slice_get parts i ≡ Some p → IsKept shares schema start p

-- The parts are of different tables, just those of which there is a share. In each the share's transaction has done what that tells.
pub record AreMet (shares : ℕ → Name) (schema : Schema) (start : Rows) (all : Shares) (parts : List Part) : Type 0 where
  pub kept : KeptEach shares schema start parts
  pub apart : AreApart parts
  pub covers : Covers parts all
  pub alone : CoversAlone parts all
  pub stand : (i : ℕ) (p : Part) → slice_get parts i ≡ Some p → Stands p all

-- Each of the parts behind a call that is no commit may lie where it lay.
pub record StayEach (shares : ℕ → Name) (tables : Name) (schema : Schema) (start : Rows) (parts new : List Part) : Type 0 where
  pub stay : (i : ℕ) (p : Part) → slice_get parts i ≡ Some p → IsSomeAnd (slice_get new i) (StaysFit shares tables schema start p)
  pub sound : (i : ℕ) (p : Part) → slice_get parts i ≡ Some p → IsSomeAnd (slice_get new i) (KeepsSound p)
  pub long : length new ≡ length parts

module _ (shares : ℕ → Name) (tables : Name) (schema : Schema) (start : Rows) where
  -- the part may lie under the lock whose guard is there
  abbrev pub FitsAt : Guards → ℕ → Part → Type 0
  FitsAt guards i p = (s : TableState) × (state_at guards i ≡ Some s) × Fits shares tables schema start s p

  -- so it is of each of the parts
  pub record FitEach (guards : Guards) (parts : List Part) : Type 0 where
    pub each : (i : ℕ) (p : Part) → slice_get parts i ≡ Some p → FitsAt guards i p
    pub room : length parts ≤ length guards

  -- The parts of the tables that are wanted, of the first so many, in the catalog's order, each from under the lock of its place.
  pub record AreLent (wanted : ℕ → Bool) (count : ℕ) (guards : Guards) (parts : List Part) : Type 0 where
    pub fit : FitEach guards parts
    pub wanted_each : (i : ℕ) (p : Part) → slice_get parts i ≡ Some p → (wanted p.number ≡ true) × (p.number < count)
    pub rising : (i j : ℕ) (p q : Part) → i < j → slice_get parts i ≡ Some p → slice_get parts j ≡ Some q → p.number < q.number
    pub all : (table : ℕ) → table < count → wanted table ≡ true → (i : ℕ) × (p : Part) × (slice_get parts i ≡ Some p) × (p.number ≡ table)
    pub few : length parts ≤ count
    pub empty : AreEmpty guards (length parts)

  -- the part of this table is lent as the last of them, from under the lock of the next place
  abbrev pub LendsOne : ℕ → List Part → Guards → List Part → Type 0
  LendsOne table parts guards new =
      (p : Part) × (s : TableState) × (new ≡ parts ++ p ∷ []) × (state_at guards (length parts) ≡ Some s) × (s.part ≡ None) × Fits shares tables schema start s p
      × (p.number ≡ table)
