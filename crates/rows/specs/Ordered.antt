-- What an ordered map of slots keeps.
use Rattle.std.specs.Prelude.{◌≡◌, ◌≢◌, ℕ, Some, None}
use Rattle.std.specs.FinMap as map
use Rattle.std.specs.FinMap.{FinMap}
use Rattle.slab.specs.Slab as slab
use Rattle.slab.specs.Slab.{Slab}
use Rattle.model.specs.declared.key.Key.{Key}
use Rattle.model.specs.Key.{key_cmp}
use Rattle.rows.specs.declared.ordered.OrderedRows.TheInside.{Inside}
use Rattle.rows.specs.Kept.{Kept}
use Rattle.rows.specs.Slots.{rows_in, numbers_in}

-- a store as its callers see it, from its slots
abbrev pub kept_in : Inside → Kept
kept_in a = record { rows = rows_in a.slots.entries; slots = numbers_in a.slots.entries }

-- At each slot's number stands its key, and no other keys stand anywhere.
pub record IsNamed (slots : FinMap key_cmp ℕ) (keys : Slab Key) : Type 0 where
  pub named : (key : Key) (number : ℕ) → map.get slots key ≡ Some number → slab.get keys number ≡ Some key
  pub names : (key : Key) (number : ℕ) → slab.get keys number ≡ Some key → map.get slots key ≡ Some number

-- a key stands at a number where none stood, and elsewhere nothing changed
pub record AddsName (old new : Slab Key) (number : ℕ) (key : Key) : Type 0 where
  pub free : slab.get old number ≡ None
  pub here : slab.get new number ≡ Some key
  pub beside : (other : ℕ) → other ≢ number → slab.get new other ≡ slab.get old other
