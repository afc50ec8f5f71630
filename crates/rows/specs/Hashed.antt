-- Slots by number, and the keys' numbers in key order, seen as the slots of an ordered map.
use Rattle.std.specs.Prelude.{◌≡◌, ◌≢◌, ℕ, cond, List, [], ◌∷◌, Option, Some, None, map}
use Rattle.std.specs.Option.{option_map}
use Rattle.std.specs.Ordering.{eq_by_cmp}
use Rattle.std.specs.Map.{lookup}
use Rattle.std.specs.BTreeMap.{is_at}
use Rattle.std.specs.HashMap as hash
use Rattle.std.specs.HashMap.{HashMap}
use Rattle.slab.specs.Slab as slab
use Rattle.slab.specs.Slab.{Slab}
use Rattle.model.specs.declared.key.Key.{Key}
use Rattle.model.specs.declared.row.Row.{Row}
use Rattle.model.specs.Key.{key_cmp}
use Rattle.rows.specs.declared.ordered.Slot.{Slot}
use Rattle.rows.specs.KeyedSlot.{KeyedSlot}
use Rattle.rows.specs.Kept.{Kept}
use Rattle.rows.specs.Ordered.{IsNamed}
use Rattle.rows.specs.Slots.{rows_in, numbers_in, number_if_empty}

-- the row in a slot, if there is a slot and one is in it
abbrev pub row_of : Option KeyedSlot → Option Row
row_of None = None
row_of (Some s) = s.row

-- the key of a slot
abbrev pub key_of : Option KeyedSlot → Option Key
key_of slot = option_map (λ (s : KeyedSlot). s.key) slot

-- the number of a key's slot
abbrev pub number_for : List (Key × ℕ) → Key → Option ℕ
number_for es key = lookup (is_at (key_cmp key)) es

-- the row in the slot of a number, if there is one
abbrev pub row_for : Slab KeyedSlot → Option ℕ → Option Row
row_for slots None = None
row_for slots (Some number) = row_of (slab.get slots number)

-- the slot of a number, as one of an ordered map
abbrev pub slot_by : Slab KeyedSlot → ℕ → Slot
slot_by slots number = record { number = number; row = row_of (slab.get slots number) }

-- the slots of the numbers, as those of an ordered map
abbrev pub seen : Slab KeyedSlot → List (Key × ℕ) → List (Key × Slot)
seen slots [] = []
seen slots (e ∷ es) = (e.0, slot_by slots e.1) ∷ seen slots es

-- the slots' keys, at their numbers
abbrev pub keys_in : Slab KeyedSlot → Slab Key
keys_in slots = record { slots = map key_of slots.slots; vacant_key = slots.vacant_key; capacity = slots.capacity }

-- Each slot has its key, and no other keys stand anywhere; and the hashes find the same numbers.
pub record IsFound {S : Type 0} (numbers : HashMap Key ℕ S) (es : List (Key × ℕ)) (slots : Slab KeyedSlot) : Type 0 where
  pub named : IsNamed (numbers_in (seen slots es)) (keys_in slots)
  pub hashed : (key : Key) → hash.get (eq_by_cmp key_cmp) numbers key ≡ number_for es key

-- a slot with another row in it, or none
abbrev pub with_row_of : Option Row → Option KeyedSlot → Option KeyedSlot
with_row_of row None = None
with_row_of row (Some s) = Some (record s { row = row })

-- a store as its callers see it, from its slots and the keys' numbers in key order
abbrev pub kept_by : Slab KeyedSlot → List (Key × ℕ) → Kept
kept_by slots es = record { rows = rows_in (seen slots es); slots = numbers_in (seen slots es) }

-- a row or none was put into the slot of a number, if there is one, and nothing else changed
pub record SetsRow (old new : Slab KeyedSlot) (number : ℕ) (row : Option Row) : Type 0 where
  pub here : slab.get new number ≡ with_row_of row (slab.get old number)
  pub beside : (other : ℕ) → other ≢ number → slab.get new other ≡ slab.get old other

-- a key has another number, or none, and each other key the one that it had
abbrev pub Renumbers : (Key → Option ℕ) → (Key → Option ℕ) → Key → Option ℕ → Type 0
Renumbers old new key number = (q : Key) → new q ≡ cond (eq_by_cmp key_cmp key q) number (old q)

-- each key has the number that it had
abbrev pub SameNumbers : (Key → Option ℕ) → (Key → Option ℕ) → Type 0
SameNumbers old new = (q : Key) → new q ≡ old q

-- an empty slot of a key was made at a number where none was, and nothing else changed
pub record AddsSlot (old new : Slab KeyedSlot) (number : ℕ) (key : Key) : Type 0 where
  pub free : slab.get old number ≡ None
  pub here : slab.get new number ≡ Some (record { key = key; row = None })
  pub beside : (other : ℕ) → other ≢ number → slab.get new other ≡ slab.get old other

-- no key has another number than before, and no slot changed
pub record SameKeys {S : Type 0} (before after : HashMap Key ℕ S) (es fs : List (Key × ℕ)) (old new : Slab KeyedSlot) : Type 0 where
  pub slots : (number : ℕ) → slab.get new number ≡ slab.get old number
  pub order : SameNumbers (number_for es) (number_for fs)
  pub hashed : SameNumbers (hash.get (eq_by_cmp key_cmp) before) (hash.get (eq_by_cmp key_cmp) after)

-- a key has the number of an empty slot that was made for it, and nothing else changed
pub record AddsKey {S : Type 0} (before after : HashMap Key ℕ S) (es fs : List (Key × ℕ)) (old new : Slab KeyedSlot) (key : Key) (number : ℕ) : Type 0 where
  pub slots : AddsSlot old new number key
  pub order : Renumbers (number_for es) (number_for fs) key (Some number)
  pub hashed : Renumbers (hash.get (eq_by_cmp key_cmp) before) (hash.get (eq_by_cmp key_cmp) after) key (Some number)

-- a key has this number: of a slot that was made where none was found, or else the one that was found
abbrev pub GivesNumber : {S : Type 0} → Option ℕ → HashMap Key ℕ S → HashMap Key ℕ S → List (Key × ℕ) → List (Key × ℕ) → Slab KeyedSlot → Slab KeyedSlot → Key → ℕ → Type 0
GivesNumber None before after es fs old new key number = AddsKey before after es fs old new key number
GivesNumber (Some found) before after es fs old new key number = (number ≡ found) × SameKeys before after es fs old new

-- a slot of a number was dropped, if there is one, and nothing else changed
pub record DropsSlot (old new : Slab KeyedSlot) (number : Option ℕ) : Type 0 where
  pub here : (n : ℕ) → number ≡ Some n → slab.get new n ≡ None
  pub beside : (n : ℕ) → number ≢ Some n → slab.get new n ≡ slab.get old n

-- the number of a slot, if no row is in it
abbrev pub number_to_drop : Slab KeyedSlot → Option ℕ → Option ℕ
number_to_drop slots None = None
number_to_drop slots (Some number) = number_if_empty number (row_of (slab.get slots number))

-- a key has no number if its slot is dropped, and each other key the one that it had
abbrev pub Unnumbers : (Key → Option ℕ) → (Key → Option ℕ) → Key → Option ℕ → Type 0
Unnumbers old new key None = SameNumbers old new
Unnumbers old new key (Some number) = Renumbers old new key None
