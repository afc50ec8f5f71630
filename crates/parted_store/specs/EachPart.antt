-- Parts that are lent, and what is done in each of them, one after another.
--     AreApart, IsBeside      they are of different tables; none is of this one
--     Covers, BelongEach      they are those of the shares; each share is a ticket of its part
--     HasEach      a world over these keys has each of them
--     WaitsAmong      a transaction waits with no change of a table beside them
--     Progress      the first of them have done so, and the others are as they were
use Rattle.std.specs.Prelude.{◌≡◌, ◌≢◌, ℕ, ◌<◌, ◌≤◌, List, [], Option, Some, IsSomeAnd, length, slice_get}
use Rattle.model.specs.Rows.{Schema}
use Rattle.world.specs.World.{Opened, World}
use Rattle.world_parts.specs.ByTable.{changes_at}
use Rattle.world_parts.specs.Parts.{wanted_by}
use Rattle.table_parts.specs.Part.{Part}
use Rattle.parted_store.specs.Lent.{HasTable, Belongs}
use Rattle.parted_store.specs.Shares.{Share, Shares, share_of}

-- the parts are of different tables
abbrev pub AreApart : List Part → Type 0
AreApart parts = (j k : ℕ) (p q : Part) → j < k → slice_get parts j ≡ Some p → slice_get parts k ≡ Some q → p.number ≢ q.number

-- none of them is of this table
abbrev pub IsBeside : List Part → ℕ → Type 0
IsBeside parts table = (i : ℕ) (p : Part) → slice_get parts i ≡ Some p → p.number ≢ table

-- each share is of a table whose part is among them
abbrev pub Covers : List Part → Shares → Type 0
Covers parts shares =
    (table : ℕ) (share : Share) → share_of shares table ≡ Some share
    → (i : ℕ) × (p : Part) × (slice_get parts i ≡ Some p) × (p.number ≡ table)

-- each share is a ticket of its part
abbrev pub BelongEach : List Part → Shares → Type 0
BelongEach parts shares = (i : ℕ) (p : Part) → slice_get parts i ≡ Some p → Belongs p shares

-- the world, over these keys, has each of them
abbrev pub HasEach : Schema → World → List Part → Type 0
HasEach schema w parts = (i : ℕ) (p : Part) → slice_get parts i ≡ Some p → HasTable w p × (p.store.schema ≡ schema)

-- it waits with no change of a table beside them
abbrev pub WaitsAmong : List Part → Opened → Type 0
WaitsAmong parts o = (table : ℕ) → IsBeside parts table → changes_at table (wanted_by o.wants) ≡ []

-- The first parts have done this with their shares; the others are as they were, and so are the other shares.
pub record Progress (does : Part → Option Share → Part → Option Share → Type 0) (start : List Part) (all : Shares) (parts : List Part) (shares : Shares) (i : ℕ) : Type 0 where
  pub done : (j : ℕ) (p : Part) → j < i → slice_get start j ≡ Some p → IsSomeAnd (slice_get parts j) (λ q. does p (share_of all p.number) q (share_of shares p.number))
  pub left : (j : ℕ) → i ≤ j → slice_get parts j ≡ slice_get start j
  pub long : length parts ≡ length start
  pub kept : (table : ℕ) → ((j : ℕ) (p : Part) → j < i → slice_get start j ≡ Some p → p.number ≢ table)
      → share_of shares table ≡ share_of all table
