-- The lists of transactions, as they lie in a map, and the finite map that they are seen as.
--     listed      a transaction's list
--     lists_seen      the lists that aren't empty
--     SameLists, SetsList      no list changes; one is another, and no other changes
--     HasRoom      a transaction has a list with room for one more
--     AddsKeys      the keys of a table's places among cells come to others
use Rattle.std.specs.Prelude.{◌≡◌, ◌≢◌, ◌↔◌, ◌⊎◌, ℕ, ◌<◌, List, [], ◌∷◌, Option, Some, None, Vec, vec_len, vec_capacity, map}
use Rattle.std.specs.List.{Contains}
use Rattle.std.specs.Ordering.{nat_cmp}
use Rattle.std.specs.BTreeMap as tree
use Rattle.std.specs.BTreeMap.{BTreeMap}
use Rattle.std.specs.FinMap as finite
use Rattle.std.specs.FinMap.{FinMap}
use Rattle.model.specs.declared.key.Key.{Key}
use Rattle.model.specs.declared.cell.Cell.{Cell}
use Rattle.model.specs.declared.cell.Cell.TheVariants.{Row}

module _ {X : Type 0} where
  -- a list at a key, or no entry where it is empty
  abbrev pub with_list : FinMap nat_cmp (List X) → ℕ → List X → FinMap nat_cmp (List X)
  with_list lists xid [] = finite.remove lists xid
  with_list lists xid (x ∷ xs) = finite.insert lists xid (x ∷ xs)

  -- the lists that aren't empty, by their transactions
  abbrev pub lists_in : List (ℕ × List X) → FinMap nat_cmp (List X)
  lists_in [] = finite.empty
  lists_in (e ∷ es) = with_list (lists_in es) e.0 e.1

module _ {X Z : Type 0} where
  -- the lists that lie in a map, by their transactions
  abbrev pub lists_seen : BTreeMap ℕ (Vec X Z) → FinMap nat_cmp (List X)
  lists_seen lists = lists_in (map (λ (e : ℕ × Vec X Z). (e.0, e.1.items)) lists.entries)

  -- the items of a list that may not be there
  abbrev pub items_in : Option (Vec X Z) → List X
  items_in None = []
  items_in (Some list) = list.items

  -- a transaction's list; empty where it has none
  abbrev pub listed : BTreeMap ℕ (Vec X Z) → ℕ → List X
  listed lists xid = items_in (tree.get nat_cmp lists xid)

  -- no transaction's list changes
  abbrev pub SameLists : BTreeMap ℕ (Vec X Z) → BTreeMap ℕ (Vec X Z) → Type 0
  SameLists old new = (xid : ℕ) → listed new xid ≡ listed old xid

  -- a transaction's list is another one, and no other list changes
  pub record SetsList (xid : ℕ) (items : List X) (old new : BTreeMap ℕ (Vec X Z)) : Type 0 where
    pub here : listed new xid ≡ items
    pub beside : (other : ℕ) → other ≢ xid → listed new other ≡ listed old other

  -- a transaction has a list with room for one more
  pub record HasRoom (lists : BTreeMap ℕ (Vec X Z)) (xid : ℕ) : Type 0 where
    pub list : Vec X Z
    pub at : tree.get nat_cmp lists xid ≡ Some list
    pub room : vec_len list < vec_capacity list

-- the keys of the places of a table that are among these cells come to others
abbrev pub AddsKeys : ℕ → List Cell → List Key → List Key → Type 0
AddsKeys table cells old new = (key : Key) → Contains new key ↔ (Contains old key ⊎ Contains cells (Row table key))
