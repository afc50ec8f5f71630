-- The last change of a transaction, once another subtransaction has adopted it. So RELEASE SAVEPOINT leaves a
-- change to the parent.
--     as_of, adopted      a change as one of a subtransaction; items whose last one is
--     EndsAlone      the last of the items is a change, and no other is of its subtransaction
--     CanAdopt      of the items that survive too, and who adopts it is named among them, or is the top transaction
use Rattle.std.specs.Prelude.{◌≡◌, ◌≢◌, ℕ, true, false, List, [], ◌∷◌, ◌++◌}
use Rattle.std.specs.List.{list_any}
use Rattle.model.specs.declared.change.Change as change_type
use Rattle.model.specs.declared.item.Item.{Item}
use Rattle.model.specs.declared.item.Item.TheVariants.{Change, Touch, BackTo, Last}
use Rattle.model.specs.Survivors.{is_of, survivors}

-- a change as one of the subtransaction
abbrev pub as_of : ℕ → Item → Item
as_of sub (Change own c) = Change sub c
as_of sub (Touch own) = Touch own
as_of sub (BackTo own) = BackTo own
as_of sub Last = Last

-- items whose last one is, if it is a change
abbrev pub adopted : ℕ → List Item → List Item
adopted sub [] = []
adopted sub (item ∷ []) = as_of sub item ∷ []
adopted sub (item ∷ next ∷ items) = item ∷ adopted sub (next ∷ items)

-- The last of the items is a change, and no other is of its subtransaction.
pub record EndsAlone (own : ℕ) (items : List Item) : Type 0 where
  pub front : List Item
  pub change : change_type.Change
  pub is : items ≡ front ++ Change own change ∷ []
  pub alone : list_any (is_of own) front ≡ false

-- So it is of the items that survive, and who is to adopt it is named among these, or is the top transaction.
pub record CanAdopt (top own sub : ℕ) (items : List Item) : Type 0 where
  pub front : List Item
  pub change : change_type.Change
  pub is : items ≡ front ++ Change own change ∷ []
  pub alone : list_any (is_of own) (survivors top front) ≡ false
  pub below : own ≢ top
  pub apart : own ≢ sub
  pub known : sub ≢ top → list_any (is_of sub) (survivors top front) ≡ true
