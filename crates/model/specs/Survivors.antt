-- Which items of a transaction survive its rollbacks.
use Rattle.std.specs.Prelude.{ℕ, ◌==◌, Bool, false, List, [], ◌∷◌, ◌++◌, not, take_while, if◌then◌else◌}
use Rattle.model.specs.declared.change.Change as change_type
use Rattle.model.specs.declared.item.Item.{Item}
use Rattle.model.specs.declared.item.Item.TheVariants.{Change, Touch, BackTo, Last}

-- the item names this subtransaction
abbrev pub is_of : ℕ → Item → Bool
is_of sub (Change named c) = named == sub
is_of sub (Touch named) = named == sub
is_of sub (BackTo named) = false
is_of sub Last = false

-- ---- elements that have an item each: items alone, or each beside something of its own

-- those before the first whose item names the subtransaction; all of them if none does
abbrev pub before_savepoint_by : {A : Type 0} → (A → Item) → ℕ → List A → List A
before_savepoint_by {A} item sub list = take_while (λ (a : A). not (is_of sub (item a))) list

-- what is left once one with this item has come; a rollback to the top transaction cuts nothing
abbrev pub left_by : {A : Type 0} → (A → Item) → ℕ → List A → A → Item → List A
left_by item top kept a (Change sub c) = kept ++ a ∷ []
left_by item top kept a (Touch sub) = kept ++ a ∷ []
left_by item top kept a (BackTo sub) = if sub == top then kept else before_savepoint_by item sub kept
left_by item top kept a Last = kept

-- what is left of the kept ones once these have come
abbrev pub surviving_by : {A : Type 0} → (A → Item) → ℕ → List A → List A → List A
surviving_by item top kept [] = kept
surviving_by item top kept (a ∷ more) = surviving_by item top (left_by item top kept a (item a)) more

-- those of a transaction that survive its rollbacks, in order
abbrev pub survivors_by : {A : Type 0} → (A → Item) → ℕ → List A → List A
survivors_by item top list = surviving_by item top [] list

-- ---- items alone

-- the items before the first that names the subtransaction; all of them if none does
abbrev pub before_savepoint : ℕ → List Item → List Item
before_savepoint sub items = before_savepoint_by (λ i. i) sub items

-- what is left once this item has come
abbrev pub after_item : ℕ → List Item → Item → List Item
after_item top kept item = left_by (λ i. i) top kept item item

-- what is left of the kept items once these have come
abbrev pub surviving : ℕ → List Item → List Item → List Item
surviving top kept items = surviving_by (λ i. i) top kept items

-- the items of a transaction that survive its rollbacks, in order
abbrev pub survivors : ℕ → List Item → List Item
survivors top items = survivors_by (λ i. i) top items

-- the changes among items
abbrev pub changes_of : List Item → List change_type.Change
changes_of [] = []
changes_of (Change sub c ∷ items) = c ∷ changes_of items
changes_of (Touch sub ∷ items) = changes_of items
changes_of (BackTo sub ∷ items) = changes_of items
changes_of (Last ∷ items) = changes_of items
