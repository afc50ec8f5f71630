-- The index of a unique key: what it holds, and what each of its calls changes.
--     held, held_by      the number at some values, if there is an entry with one; at those of a row
--     KeepsSlots, HasSlot      no number changes and no entry goes; there is an entry for the row's values
--     Sets, Puts, Settles      the number at the row's values is set; it comes there; their entry is dropped if it has none
--     DropsEntry, ReleasesValues      the entry for some values is dropped if it has no number
use Rattle.std.specs.Prelude.{◌≡◌, ◌≢◌, ℕ, suc, ◌<◌, Bool, false, if◌then◌else◌, List, [], ◌∷◌, length, Option, Some, None, IsSome, is_some, slice_index_or, map}
use Rattle.std.specs.Ordering.{eq_by_cmp}
use Rattle.std.specs.HashMap as hash
use Rattle.std.specs.HashMap.{HashMap}
use Rattle.model.specs.declared.key.Key.{Key}
use Rattle.model.specs.declared.row.Row.{Row}
use Rattle.model.specs.Key.{key_cmp}
use Rattle.model.specs.Rows.{values_in}
use Rattle.indexes.specs.declared.seed.Seed.{Seed}
use Rattle.indexes.specs.declared.unique.Unique.{Unique}

-- an index: from values of a unique key to the number of the row's slot, none where the row went
abbrev pub Entries : Type 0
Entries = HashMap Key (Option ℕ) Seed

-- the number in an entry, if there is an entry and it has one
abbrev pub number_in : Option (Option ℕ) → Option ℕ
number_in None = None
number_in (Some number) = number

-- the entry for some values, if there is one
abbrev pub entry_at : Entries → Key → Option (Option ℕ)
entry_at entries values = hash.get (eq_by_cmp key_cmp) entries values

-- the number at some values, if there is an entry with one
abbrev pub held : Entries → Key → Option ℕ
held entries values = number_in (entry_at entries values)

-- the number at a row's values; none if it hasn't them all
abbrev pub held_by : Entries → Option Key → Option ℕ
held_by entries None = None
held_by entries (Some values) = held entries values

-- an entry with another number in it, or none
abbrev pub with_number : Option ℕ → Option (Option ℕ) → Option (Option ℕ)
with_number number None = None
with_number number (Some before) = Some number

-- the entries for other values are as they were
abbrev pub SameApart : Key → Entries → Entries → Type 0
SameApart values old new = (other : Key) → eq_by_cmp key_cmp values other ≡ false → entry_at new other ≡ entry_at old other

-- no number changes, and no entry goes
pub record KeepsEntries (old new : Entries) : Type 0 where
  pub numbers : (values : Key) → held new values ≡ held old values
  pub entries : (values : Key) → IsSome (entry_at old values) → IsSome (entry_at new values)

-- there is an entry for the row's values, if it has them all
abbrev pub HasEntry : List ℕ → Row → Entries → Type 0
HasEntry columns row entries = (values : Key) → values_in columns row ≡ Some values → IsSome (entry_at entries values)

-- the number at the row's values is set, and no other
pub record SetsEntry (columns : List ℕ) (row : Row) (number : Option ℕ) (old new : Entries) : Type 0 where
  pub here : (values : Key) → values_in columns row ≡ Some values → entry_at new values ≡ with_number number (entry_at old values)
  pub beside : (values : Key) → values_in columns row ≢ Some values → entry_at new values ≡ entry_at old values

-- the number comes to the row's values, no other changes, and no entry goes
pub record PutsEntry (columns : List ℕ) (row : Row) (number : ℕ) (old new : Entries) : Type 0 where
  pub here : (values : Key) → values_in columns row ≡ Some values → held new values ≡ Some number
  pub beside : (values : Key) → values_in columns row ≢ Some values → held new values ≡ held old values
  pub entries : (values : Key) → IsSome (entry_at old values) → IsSome (entry_at new values)

-- the entry for these values goes if it has no number, none comes, and nothing else changes
pub record DropsEntry (values : Key) (old new : Entries) : Type 0 where
  pub gone : held old values ≡ None → entry_at new values ≡ None
  pub numbers : (other : Key) → held new other ≡ held old other
  pub fewer : (other : Key) → IsSome (entry_at new other) → IsSome (entry_at old other)
  pub beside : SameApart values old new

-- the entry for the row's values goes if it has no number, none comes, and nothing else changes
pub record SettlesEntry (columns : List ℕ) (row : Row) (old new : Entries) : Type 0 where
  pub gone : (values : Key) → values_in columns row ≡ Some values → held old values ≡ None → entry_at new values ≡ None
  pub numbers : (values : Key) → held new values ≡ held old values
  pub fewer : (values : Key) → IsSome (entry_at new values) → IsSome (entry_at old values)
  pub beside : (values : Key) → values_in columns row ≢ Some values → entry_at new values ≡ entry_at old values

-- ---- of an index

-- the index keeps its columns, no number changes, and no entry goes
pub record KeepsSlots (old new : Unique) : Type 0 where
  pub columns : new.columns ≡ old.columns
  pub entries : KeepsEntries old.entries new.entries

-- the index has an entry for the row's values, unless one of them is null
abbrev pub HasSlot : Row → Unique → Type 0
HasSlot row unique = HasEntry unique.columns row unique.entries

-- the number in the index's entry for the row's values is set, if there is one; nothing else changes
pub record Sets (row : Row) (number : Option ℕ) (old new : Unique) : Type 0 where
  pub columns : new.columns ≡ old.columns
  pub entries : SetsEntry old.columns row number old.entries new.entries

-- the number comes to the row's values in the index; no other changes, and no entry goes
pub record Puts (row : Row) (number : ℕ) (old new : Unique) : Type 0 where
  pub columns : new.columns ≡ old.columns
  pub entries : PutsEntry old.columns row number old.entries new.entries

-- a number stands at the row's values in the index
abbrev pub is_used : Row → Unique → Bool
is_used row unique = is_some (held_by unique.entries (values_in unique.columns row))

-- the index's entry for the row's values goes if it has no number; nothing else changes
pub record Settles (row : Row) (old new : Unique) : Type 0 where
  pub columns : new.columns ≡ old.columns
  pub entries : SettlesEntry old.columns row old.entries new.entries

-- the index's entry for these values goes if it has no number; nothing else changes
pub record ReleasesValues (values : Key) (old new : Unique) : Type 0 where
  pub columns : new.columns ≡ old.columns
  pub entries : DropsEntry values old.entries new.entries

-- ---- of each index of a table

-- each index of a table takes such a step, and there are as many as before
pub record EachStep (Step : Unique → Unique → Type 0) (old new : List Unique) : Type 0 where
  pub long : length new ≡ length old
  pub each : (k : ℕ) (d : Unique) → k < length old → Step (slice_index_or old k d) (slice_index_or new k d)

-- each index has an entry for the row's values, unless one of them is null
abbrev pub EachHasSlot : Row → List Unique → Type 0
EachHasSlot row uniques = (k : ℕ) (d : Unique) → k < length uniques → HasSlot row (slice_index_or uniques k d)

-- two rows have the same values in each unique key
abbrev pub EachAgrees : Row → Row → List Unique → Type 0
EachAgrees row other uniques = (k : ℕ) (d : Unique) → k < length uniques → values_in (slice_index_or uniques k d).columns row ≡ values_in (slice_index_or uniques k d).columns other

-- the least of these unique keys, numbered from `key`, in whose index a number stands at the row's values
abbrev pub first_used : Row → ℕ → List Unique → Option ℕ
first_used row key [] = None
first_used row key (u ∷ us) = if is_used row u then Some key else first_used row (suc key) us

-- no values have an entry
abbrev pub HasNone : Unique → Type 0
HasNone unique = unique.entries.entries ≡ []

-- its columns and entries alone, however they lie in memory
abbrev pub plain : Unique → List ℕ × List (Key × Option ℕ)
plain unique = (unique.columns, unique.entries.entries)

-- the columns of each
abbrev pub columns_of : List Unique → List (List ℕ)
columns_of uniques = map (λ u. u.columns) uniques
