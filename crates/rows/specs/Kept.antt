-- A store of rows as its callers see it.
--     Kept      the rows by their keys, and the slots: each key that has one, and the slot's number
use Rattle.std.specs.Prelude.{◌≡◌, ℕ, Some}
use Rattle.std.specs.FinMap.{FinMap, get}
use Rattle.model.specs.declared.key.Key.{Key}
use Rattle.model.specs.declared.row.Row.{Row}
use Rattle.model.specs.Key.{key_cmp}

-- a store of rows as its callers see it: its rows, and the numbers of its slots, by primary key
pub record Kept : Type 0 where
  pub rows : FinMap key_cmp Row
  pub slots : FinMap key_cmp ℕ

-- each slot of the one is in the other, with its number
abbrev pub KeepsSlots : FinMap key_cmp ℕ → FinMap key_cmp ℕ → Type 0
KeepsSlots old new = (key : Key) (number : ℕ) → get old key ≡ Some number → get new key ≡ Some number

-- no two slots have one number
abbrev pub IsNumbered : FinMap key_cmp ℕ → Type 0
IsNumbered slots = (key other : Key) (number : ℕ) → get slots key ≡ Some number → get slots other ≡ Some number → key ≡ other

-- each row lies in a slot
abbrev pub IsSlotted : Kept → Type 0
IsSlotted kept = (key : Key) (row : Row) → get kept.rows key ≡ Some row → (number : ℕ) × (get kept.slots key ≡ Some number)

-- some key's slot has this number
abbrev pub HasNumber : FinMap key_cmp ℕ → ℕ → Type 0
HasNumber slots number = (key : Key) × (get slots key ≡ Some number)
