-- One table: its keys' columns, its rows, and its room.
--     Spot      a key's number, 0 for the primary key, and values of it.        spots_of      those that a row fills
--     cell_at, cells_in      a spot as a cell of a table with a number; all of a table's
--     IsTaken, TellsTaken      a row agrees with one of the table in a key; which key an answer names
--     IsOfSettled, IsFilled      what settling may give up; a row is there
--     ReleasesSpot      a spot that no row fills goes from the room
--     IsSound      rows stand at their own keys, no two agree in a unique key, and the room has what they fill
use Rattle.std.specs.Prelude.{◌≡◌, ◌≢◌, ◌⊎◌, ℕ, suc, ◌<◌, List, [], ◌∷◌, ◌++◌, ◌-◌, Option, Some, None, IsSome, Result, Ok, Err, map, slice_get, unwrap_or}
use Rattle.std.specs.List.{Contains}
use Rattle.std.proofs.Common.{zero}
use Rattle.std.specs.FinMap as finite
use Rattle.std.specs.FinMap.{FinMap}
use Rattle.model.specs.declared.key.Key.{Key}
use Rattle.model.specs.declared.row.Row.{Row as Record}
use Rattle.model.specs.declared.cell.Cell.{Cell}
use Rattle.model.specs.declared.cell.Cell.TheVariants.{Row, Uniq}
use Rattle.model.specs.Key.{key_cmp}
use Rattle.model.specs.Rows.{TableKeys, values_in}
use Rattle.indexes.specs.declared.refused.Refused.{Refused}
use Rattle.indexes.specs.declared.refused.Refused.TheVariants.{Taken, OutOfMemory}

-- a key's number, 0 for the primary key and 1 upwards for the unique keys, and values of it
abbrev pub Spot : Type 0
Spot = ℕ × Key

-- one table as its callers see it: its keys' columns, its rows by primary key, and its room
pub record TableContent : Type 0 where
  pub keys : TableKeys
  pub rows : FinMap key_cmp Record
  pub room : List Spot

-- the spot of these values of the key with this number; none where a null is among them
abbrev pub spot : ℕ → Option Key → List Spot
spot number None = []
spot number (Some values) = (number, values) ∷ []

-- of the unique keys, numbered from `number`
abbrev pub unique_spots : Record → ℕ → List (List ℕ) → List Spot
unique_spots row number [] = []
unique_spots row number (columns ∷ uniques) = spot number (values_in columns row) ++ unique_spots row (suc number) uniques

-- the spots that a row fills
abbrev pub spots_of : TableKeys → Record → List Spot
spots_of keys row = spot 0 (values_in keys.primary row) ++ unique_spots row 1 keys.uniques

-- a spot, in the table with this number
abbrev pub cell_of_key : ℕ → ℕ → Key → Cell
cell_of_key table zero values = Row table values
cell_of_key table (suc number) values = Uniq table (suc number) values

-- a spot as a cell of the table with this number
abbrev pub cell_at : ℕ → Spot → Cell
cell_at table s = cell_of_key table s.0 s.1

-- a table's room as cells, the table having this number
abbrev pub cells_in : ℕ → TableContent → List Cell
cells_in table t = map (cell_at table) t.room

-- each spot of the one is in the other
abbrev pub KeepsSpots : List Spot → List Spot → Type 0
KeepsSpots old new = (s : Spot) → Contains old s → Contains new s

-- the columns of a unique key, by its number from 1
abbrev pub unique_at : TableKeys → ℕ → List ℕ
unique_at keys number = unwrap_or (slice_get keys.uniques (number - 1)) []

-- the row at a key has these values in these columns
abbrev pub HasValues : FinMap key_cmp Record → List ℕ → Key → Key → Type 0
HasValues rows columns key values = (row : Record) × (finite.get rows key ≡ Some row) × (values_in columns row ≡ Some values)

-- the row at a key agrees with this one in these columns
abbrev pub IsDuplicate : FinMap key_cmp Record → List ℕ → Key → Record → Type 0
IsDuplicate rows columns key row = (values : Key) × (values_in columns row ≡ Some values) × HasValues rows columns key values

-- a row that comes to this key agrees with one of the table in the key of this number, 0 the primary key
abbrev pub IsTaken : TableKeys → FinMap key_cmp Record → Key → Record → ℕ → Type 0
IsTaken keys rows key row zero = IsSome (finite.get rows key)
IsTaken keys rows key row (suc i) = (columns : List ℕ) × (slice_get keys.uniques i ≡ Some columns) × (other : Key) × IsDuplicate rows columns other row

-- an answer is done where no key is taken, and refused for the least that is; a want of memory tells nothing
abbrev pub TellsTaken : {T : Type 0} → TableKeys → FinMap key_cmp Record → Key → Record → Result T Refused → Type 0
TellsTaken keys rows key row (Ok done) = (number : ℕ) → ¬ IsTaken keys rows key row number
TellsTaken keys rows key row (Err (Taken number)) = IsTaken keys rows key row number × ((less : ℕ) → less < number → ¬ IsTaken keys rows key row less)
TellsTaken keys rows key row (Err OutOfMemory) = Unit {0}

-- a row has the values of the one at a key in each unique key
abbrev pub KeepsValues : TableContent → Key → Record → Type 0
KeepsValues t key row = (stood : Record) → finite.get t.rows key ≡ Some stood → (i : ℕ) (columns : List ℕ) → slice_get t.keys.uniques i ≡ Some columns → values_in columns row ≡ values_in columns stood

-- the key's spot, and those that the row's unique values fill: what settling the two may give up
abbrev pub IsOfSettled : TableKeys → Key → Record → Spot → Type 0
IsOfSettled keys key row s = (s ≡ (0, key)) ⊎ Contains (unique_spots row 1 keys.uniques) s

-- a row of the table fills the spot
abbrev pub IsFilled : TableKeys → FinMap key_cmp Record → Spot → Type 0
IsFilled keys rows s = (key : Key) × (row : Record) × (finite.get rows key ≡ Some row) × Contains (spots_of keys row) s

-- A spot that no row fills goes from the room. No other spot goes, none comes, and no row changes.
pub record ReleasesSpot (old new : TableContent) (s : Spot) : Type 0 where
  pub keys : new.keys ≡ old.keys
  pub rows : new.rows ≡ old.rows
  pub gone : ¬ IsFilled old.keys old.rows s → ¬ Contains new.room s
  pub fewer : KeepsSpots new.room old.room
  pub others : (other : Spot) → other ≢ s → Contains old.room other → Contains new.room other

-- no row has the values that this one has in some unique key
abbrev pub NoClash : TableKeys → FinMap key_cmp Record → Record → Type 0
NoClash keys rows row =
    (i : ℕ) (columns : List ℕ) (key values : Key) (duplicate : Record)
    → slice_get keys.uniques i ≡ Some columns → finite.get rows key ≡ Some duplicate
    → values_in columns duplicate ≡ Some values → values_in columns row ≢ Some values

-- the table is sound: rows at their own keys, no two agree in a unique key, and each has its room
pub record IsSound (t : TableContent) : Type 0 where
  pub own_key : (key : Key) (row : Record) → finite.get t.rows key ≡ Some row → values_in t.keys.primary row ≡ Some key
  pub unique : (i : ℕ) (columns : List ℕ) (key other : Key) (row duplicate : Record) (values : Key)
      → slice_get t.keys.uniques i ≡ Some columns
      → finite.get t.rows key ≡ Some row → finite.get t.rows other ≡ Some duplicate
      → values_in columns row ≡ Some values → values_in columns duplicate ≡ Some values
      → key ≡ other
  pub room : (key : Key) (row : Record) → finite.get t.rows key ≡ Some row → KeepsSpots (spots_of t.keys row) t.room
