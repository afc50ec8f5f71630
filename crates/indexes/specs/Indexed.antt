-- What a table keeps: each index holds just the rows' values.
use Rattle.std.specs.Prelude.{◌≡◌, ℕ, suc, List, [], ◌∷◌, ◌++◌, Some, map}
use Rattle.std.specs.List.{All}
use Rattle.std.specs.FinMap as finite
use Rattle.std.specs.HashMap as hash
use Rattle.model.specs.declared.key.Key.{Key}
use Rattle.model.specs.declared.row.Row.{Row as Record}
use Rattle.model.specs.Rows.{values_in}
use Rattle.rows.specs.Kept.{Kept, IsNumbered, IsSlotted}
use Rattle.indexes.specs.declared.unique.Unique.{Unique}
use Rattle.indexes.specs.declared.table.Table.TheInside.{Inside}
use Rattle.indexes.specs.Unique.{Entries, held}
use Rattle.indexes.specs.Table.{Spot, TableContent}
pub use Rattle.indexes.specs.Unique.{columns_of}

-- a row whose slot has a number, and that has these values
pub record Holder (columns : List ℕ) (kept : Kept) (values : Key) (number : ℕ) : Type 0 where
  pub key : Key
  pub row : Record
  pub slot : finite.get kept.slots key ≡ Some number
  pub at : finite.get kept.rows key ≡ Some row
  pub has : values_in columns row ≡ Some values

-- the entries with numbers are those of the rows' values
pub record IsIndex (columns : List ℕ) (kept : Kept) (entries : Entries) : Type 0 where
  pub holds : (key : Key) (row : Record) (values : Key) (number : ℕ)
      → finite.get kept.rows key ≡ Some row → finite.get kept.slots key ≡ Some number → values_in columns row ≡ Some values
      → held entries values ≡ Some number
  pub only : (values : Key) (number : ℕ) → held entries values ≡ Some number → Holder columns kept values number

-- the entries of this unique key that have numbers are those of the stored rows' values
abbrev pub IndexOf : Kept → Unique → Type 0
IndexOf kept unique = IsIndex unique.columns kept unique.entries

-- each row stands at its own key in a slot, no two slots share a number, each index is of these rows
pub record IsIndexed (primary : List ℕ) (kept : Kept) (uniques : List Unique) : Type 0 where
  pub own_key : (key : Key) (row : Record) → finite.get kept.rows key ≡ Some row → values_in primary row ≡ Some key
  pub each : All (IndexOf kept) uniques
  pub numbered : IsNumbered kept.slots
  pub slotted : IsSlotted kept

-- the values that have an entry, of the unique keys numbered from `number`
abbrev pub entry_spots : ℕ → List Unique → List Spot
entry_spots number [] = []
entry_spots number (u ∷ us) = map (λ values. (number, values)) (hash.keys u.entries) ++ entry_spots (suc number) us

-- a table's room: the keys that have a slot, and for each unique key the values that have an entry
abbrev pub room_of : Kept → List Unique → List Spot
room_of kept uniques = map (λ key. (0, key)) (finite.keys kept.slots) ++ entry_spots 1 uniques

-- a table as its callers see it, from what it keeps
abbrev pub content_of : Inside → TableContent
content_of a = record {
  keys = record { primary = a.primary.items; uniques = columns_of a.uniques.items };
  rows = a.rows.rows;
  room = room_of a.rows a.uniques.items;
}
