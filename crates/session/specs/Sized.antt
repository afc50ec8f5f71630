-- Items with the lengths of their payloads, as a spool keeps them.
use Rattle.std.specs.Prelude.{◌≡◌, ℕ, suc, List, [], ◌∷◌, length, map, sum, ◌==◌, Bool, false, Option, Some, None, if◌then◌else◌}
use Rattle.model.specs.declared.item.Item.{Item}
use Rattle.model.specs.declared.item.Item.TheVariants.{Change, Touch, BackTo, Last}
use Rattle.savepoint.specs.Savepoints.{savepoints, mark_at, before_mark}

-- items, each with the length of its payload in bytes
abbrev pub SizedItems : Type 0
SizedItems = List (Item × ℕ)

-- the item, without the length of its payload
abbrev pub item_of : Item × ℕ → Item
item_of i = i.0

-- the length of the item's payload in bytes
abbrev pub size_of : Item × ℕ → ℕ
size_of i = i.1

-- how many bytes of payloads the items have
abbrev pub bytes_of : SizedItems → ℕ
bytes_of items = sum (map size_of items)

-- there is a mark, and it stands at this index among the items
abbrev pub is_at_index : ℕ → Option ℕ → Bool
is_at_index index None = false
is_at_index index (Some at) = at == index

-- the marks without the subtransaction's, if that stands at this index
abbrev pub without_mark : ℕ → ℕ → List (ℕ × ℕ) → List (ℕ × ℕ)
without_mark sub index marks = if is_at_index index (mark_at sub marks) then before_mark sub marks else marks

-- the marks without the one that the item set at this index, if it set one
abbrev pub unnoted_by : Item → ℕ → List (ℕ × ℕ) → List (ℕ × ℕ)
unnoted_by (Change sub c) index marks = without_mark sub index marks
unnoted_by (Touch sub) index marks = without_mark sub index marks
unnoted_by (BackTo sub) index marks = marks
unnoted_by Last index marks = marks

-- items, each beside the number of those before it, from n on
abbrev pub numbered : ℕ → List Item → List (Item × ℕ)
numbered n [] = []
numbered n (item ∷ items) = (item, n) ∷ numbered (suc n) items

-- A spool has a size for each item, and the items' savepoints with the number of items before each.
pub record IsSpool (items : List Item) (sizes : List ℕ) (marks : List (ℕ × ℕ)) : Type 0 where
  pub paired : length sizes ≡ length items
  pub marked : marks ≡ savepoints (numbered 0 items)
