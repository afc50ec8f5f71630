-- Slots, by what a look-up finds.
use Rattle.std.specs.Prelude.{◌≡◌, ℕ, false, List, [], ◌∷◌, Option, Some, None}
use Rattle.std.specs.List.{filter_map}
use Rattle.std.specs.Map.{lookup}
use Rattle.std.specs.FinMap as map
use Rattle.std.specs.FinMap.{FinMap}
use Rattle.std.specs.BTreeMap.{is_at}
use Rattle.model.specs.declared.key.Key.{Key}
use Rattle.model.specs.declared.row.Row.{Row}
use Rattle.model.specs.Key.{key_cmp}
use Rattle.rows.specs.declared.ordered.Slot.{Slot}

-- the slot at a key
abbrev pub found : List (Key × Slot) → Key → Option Slot
found es key = lookup (is_at (key_cmp key)) es

-- the row in a slot, if there is a slot and one is in it
abbrev pub row_at : Option Slot → Option Row
row_at None = None
row_at (Some s) = s.row

-- the number of a slot, if there is one
abbrev pub number_at : Option Slot → Option ℕ
number_at None = None
number_at (Some s) = Some s.number

-- a row or none at a key
abbrev pub with_row : FinMap key_cmp Row → Key → Option Row → FinMap key_cmp Row
with_row rows key None = map.remove rows key
with_row rows key (Some row) = map.insert rows key row

-- the rows in the slots
abbrev pub rows_in : List (Key × Slot) → FinMap key_cmp Row
rows_in [] = map.empty
rows_in (e ∷ es) = with_row (rows_in es) e.0 e.1.row

-- the rows in slots, one after another
abbrev pub rows_among : List Slot → List Row
rows_among slots = filter_map (λ (s : Slot). s.row) slots

-- the slots' numbers
abbrev pub numbers_in : List (Key × Slot) → FinMap key_cmp ℕ
numbers_in [] = map.empty
numbers_in (e ∷ es) = map.insert (numbers_in es) e.0 e.1.number

-- the slots but one are as they were
abbrev pub SameBeside : List (Key × Slot) → List (Key × Slot) → Key → Type 0
SameBeside es fs key = (q : Key) → is_at (key_cmp key) q ≡ false → found fs q ≡ found es q

-- a slot with another row in it, or none
abbrev pub with_row_at : Option Row → Option Slot → Option Slot
with_row_at row None = None
with_row_at row (Some s) = Some (record s { row = row })

-- a slot that is dropped if no row is in it
abbrev pub kept_if_filled : Slot → Option Row → Option Slot
kept_if_filled s None = None
kept_if_filled s (Some row) = Some s

-- the slot, if there is one and a row is in it
abbrev pub without_empty : Option Slot → Option Slot
without_empty None = None
without_empty (Some s) = kept_if_filled s s.row

-- a slot's number, if no row is in it
abbrev pub number_if_empty : ℕ → Option Row → Option ℕ
number_if_empty number None = Some number
number_if_empty number (Some row) = None

-- the number of a slot with no row in it
abbrev pub number_of_empty : Option Slot → Option ℕ
number_of_empty None = None
number_of_empty (Some s) = number_if_empty s.number s.row
